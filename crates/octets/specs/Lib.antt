-- Byte strings, and the numbers that they spell.
pub mod Xor
pub mod Numbers
pub mod Places
pub mod Strings
pub mod Joined
