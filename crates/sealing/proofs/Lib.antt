-- The answers of any mode, and the theorems on sealing and opening.
pub mod Refusals
pub mod Done
pub mod Written
pub mod Memory
pub mod Trips
pub mod Theorems
mod Cases
mod Strings
