-- What the theorems of uniqueness say, in every crate.
pub mod Promise
