-- The theorems about frames that need no key: positions and their bytes, the table of kinds, whole frames, the scan and its longest prefix, the
-- accident that this library exists for, and document 01's cases.
pub mod Complement
pub mod RoundTrip
pub mod Rows
pub mod Fronts
pub mod Whole
pub mod Scans
pub mod Longest
pub mod NoCutFrame
pub mod Numbers
pub mod Orders
pub mod Cases
pub mod Told
pub mod Unique
