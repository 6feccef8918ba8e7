-- What the contracts cite.
pub mod Value
pub mod Limbs64
pub mod Limbs32
