-- What the proofs of the crate message rest on, and the uniqueness of its answers.
pub mod Told
pub mod Placing
pub mod Delivery
pub mod Unique
