-- What FIPS 197's examples start from and give.
pub mod Examples
