-- Document 01, "Frame", as far as no key is needed, in the order to read it.
pub mod Signed
pub mod Position
pub mod Kinds
pub mod Front
pub mod Scan
