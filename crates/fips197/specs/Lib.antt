-- FIPS 197, the Advanced Encryption Standard: what a reader must believe of it. Section numbers are those of the edition of 2023 (FIPS 197-upd1).
pub mod Table
pub mod Field
pub mod Sbox
pub mod Cipher
pub mod KeyExpansion
pub mod Aes
