-- How the keys of a message are held, and what they make of a text.
pub mod Derives
pub mod Keyed
