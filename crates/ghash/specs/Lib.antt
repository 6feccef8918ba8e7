-- What the contracts cite: GHASH by way of POLYVAL, on the record that code holds.
pub mod Calls
