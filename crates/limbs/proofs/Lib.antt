-- Laws on plain numbers that the functions' proofs cite.
pub mod Pair
pub mod Reversed
pub mod Words64
pub mod Folds64
pub mod Words32
pub mod Folds32
pub mod Unique
