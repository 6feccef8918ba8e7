-- The theorems about writing and reading frames: what was written is read again, whatever is accepted was written, no cut
-- message is ever a message, what follows a frame plays no part, a refusal leaves nothing, logs of written frames scan whole, and document 01's
-- numbers, orders and cases.
pub mod Sealing
pub mod Writing
pub mod Reading
pub mod Values
pub mod Texts
pub mod Trips
pub mod ByKind
pub mod Accepted
pub mod NoCutMessage
pub mod Follows
pub mod Refused
pub mod Logs
pub mod Places
pub mod Orders
pub mod Cases
pub mod Told
