-- How the code holds a state of FIPS 197.
pub mod State
