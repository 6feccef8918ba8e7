pub mod Laws
pub mod ReadBack
pub mod Cases
pub mod Unique
