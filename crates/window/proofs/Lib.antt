-- The laws of the crate window: what bytes at hand say of a log, the reader's theorem.
pub mod Logs
pub mod Steps
pub mod Views
pub mod InPieces
pub mod Cases
pub mod Unique
