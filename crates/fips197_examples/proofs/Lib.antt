-- FIPS 197's whole blocks, computed.
mod Examples
