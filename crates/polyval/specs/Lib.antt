-- What the contracts cite.
pub mod FirstBlock
pub mod Product
pub mod Sizes
