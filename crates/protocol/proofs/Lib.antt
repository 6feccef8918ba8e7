-- Laws of the crate protocol.
pub mod Laws
pub mod Cases
pub mod Unique
