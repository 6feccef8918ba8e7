-- How a key's schedules are held.
pub mod Cipher
