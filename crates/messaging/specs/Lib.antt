-- Document 01, "Frame": writing a frame and reading one, in the order to read it.
pub mod Parts
pub mod Reading
pub mod Message
pub mod Write
pub mod Read
