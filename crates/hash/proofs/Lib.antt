-- The laws that the proofs cite.
pub mod Store
pub mod Unique
