-- The tables at one byte and against FIPS 197, and that two tables which meet a promise are equal.
pub mod Entry
pub mod Cases
pub mod Unique
