-- Laws of the key stream and of a sealed part, and small cases computed.
pub mod Stream
pub mod Modes
pub mod Cases
