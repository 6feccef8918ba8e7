-- What RFC 8452's examples start from.
pub mod Examples
