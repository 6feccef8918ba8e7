-- RFC 8452's worked example and a vector with a key of 32 bytes, computed.
mod Steps
mod Worked
mod LongKey
