-- What the proofs of the crate frame rest on, and the uniqueness of its answers.
pub mod Signs
pub mod Turns
pub mod Unique
