-- The definitions' laws, and the steps that FIPS 197 prints.
pub mod Table
pub mod Length
pub mod Field
pub mod Sbox
pub mod Cases
