-- The laws that the proofs cite.
pub mod Fed
pub mod Call
pub mod Equal
pub mod Cases
pub mod Unique
