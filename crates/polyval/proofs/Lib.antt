-- The laws that the proofs cite.
pub mod Absorb
pub mod Range
pub mod Groups
pub mod Unique
pub mod KeyTurns
pub mod Cases
