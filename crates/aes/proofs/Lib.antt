-- Laws that the functions' proofs share, what the calls come to together, and that two answers which meet a promise are equal.
pub mod Expanding
pub mod Words
pub mod Whole
pub mod Cases
pub mod Unique
