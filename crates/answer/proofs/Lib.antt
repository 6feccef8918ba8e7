-- The laws of `first`, and the numbers.
pub mod First
pub mod Cases
pub mod Reasons
pub mod Unique
