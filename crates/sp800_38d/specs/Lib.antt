-- SP 800-38D: what a reader must believe.
pub mod Ghash
