-- What the contracts of the crate files cite.
pub mod Files
