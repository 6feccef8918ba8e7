-- The laws of the pieces of a line as the code puts them; and that a promise fixes its answer.
pub mod Writing
pub mod Lines
pub mod Unique
