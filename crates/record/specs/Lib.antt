-- What the contracts of the crate record cite.
pub mod Bytes
