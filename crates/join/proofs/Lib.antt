-- The laws that the proofs cite.
pub mod Times
pub mod Turn
pub mod Cases
pub mod Unique
