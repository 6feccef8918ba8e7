-- What the contracts of the crate window cite, in the order to read it, and the reader that its theorem is about.
pub mod Step
pub mod Slide
pub mod Reader
