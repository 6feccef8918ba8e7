-- The limits of document 01. They are ours, not the RFC's, and will change: no proof rests on their size. Assumes nothing.
use Rattle.std.specs.Prelude.{ℕ}

-- associated data, in bytes
abbrev pub max_ad : ℕ
max_ad = 1024

-- plaintext of a sealing
abbrev pub max_plaintext : ℕ
max_plaintext = 65536

-- sealed part of an opening: the plaintext's limit and the tag's 16 bytes
abbrev pub max_sealed : ℕ
max_sealed = 65552

-- log of a program
abbrev pub max_log : ℕ
max_log = 16777216
