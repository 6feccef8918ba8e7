-- The laws of the program framelog: of where the reader stands, and of the texts that it reads.
pub mod Places
pub mod Texts
