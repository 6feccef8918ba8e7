-- The lines of a log's report, in the order to read it.
pub mod Ascii
pub mod Numbers
pub mod Escapes
pub mod Lines
pub mod Printable
