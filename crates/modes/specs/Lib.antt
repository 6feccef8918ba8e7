-- What every mode of sealing shares: RFC 8452 and SP 800-38D differ in the counter and in the tag.
pub mod Stream
pub mod Mode
