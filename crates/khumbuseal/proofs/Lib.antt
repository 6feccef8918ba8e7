-- Laws of the crate khumbuseal.
pub mod Laws
pub mod Cases
pub mod Unique
