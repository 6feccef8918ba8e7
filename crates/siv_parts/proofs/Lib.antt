-- Laws that the functions' proofs share, and that no contract leaves a choice.
pub mod Deriving
pub mod Hashing
pub mod Unique
