-- The block product is the field's, and GHASH is POLYVAL of the reversed blocks.
pub mod Product
pub mod Equal
pub mod Cases
