-- What the contracts of the crate khumbuseal cite, in the order to read it.
pub mod Cells
pub mod Hashing
pub mod Ghashing
pub mod Frames
