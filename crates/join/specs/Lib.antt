-- What the contracts cite.
pub mod Halving
