-- What the contracts of the crate report cite of its own.
pub mod Writing
