-- The laws of the crate files.
pub mod Answers
