-- What the table of words is, beside FIPS 197's S-box.
pub mod Words
