-- What a line can hold, that what it shows can be read back, and cases; the laws of numbers, of escapes and of room.
pub mod Printable
pub mod Safe
pub mod ReadBack
pub mod Cases
pub mod Decimals
pub mod Escapes
pub mod Room
