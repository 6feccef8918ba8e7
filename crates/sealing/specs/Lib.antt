-- Sealing and opening by document 01: the limits, the answers of any mode, and the calls of AES-GCM-SIV.
pub mod Limits
pub mod Calls
pub mod Siv
