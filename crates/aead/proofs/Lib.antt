-- The record of a key is FIPS 197's cipher under it; what it holds at every length; and that no contract leaves a choice.
pub mod Ciphers
pub mod Cases
pub mod Unique
