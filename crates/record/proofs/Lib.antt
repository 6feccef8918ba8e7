-- The laws of the crate record.
pub mod Arrays
pub mod Powers
pub mod Trips
pub mod Cases
pub mod Unique
