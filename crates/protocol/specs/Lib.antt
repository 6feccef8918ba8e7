-- What the contracts of the crate protocol cite: docs/PROTOCOL.md.
pub mod Input
pub mod Parts
pub mod Words
pub mod Said
