-- RFC 8452, in the order of its sections: what a reader must believe. The field of section 3 is gf2's.
pub mod Blocks
pub mod Machine
pub mod Keys
pub mod Tag
pub mod Counter
pub mod Siv
pub mod AppendixA
