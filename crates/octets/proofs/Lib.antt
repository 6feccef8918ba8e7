-- Laws of the exclusive or, of numbers of bytes and of byte strings; and that no contract leaves a choice.
pub mod Digit
pub mod Xor
pub mod Numbers
pub mod XorBytes
pub mod Parts
pub mod Copies
pub mod Endian
pub mod Same
pub mod Places
pub mod Unique
pub mod Cases
