-- The parts of a frame (document 01, "Frame"), put together and taken apart. Assumes nothing.
use Rattle.std.specs.Prelude.{ℕ, ◌+◌, List, ◌∷◌, ◌++◌, length, take, drop}
use Rattle.octets.specs.Numbers.{bytes_of}
use Rattle.rfc8452.specs.Siv.{sealed, opened}
use Rattle.framing.specs.Front.{mark, sealed_len}

-- "Byte 0: 0x4B. Byte 1: kind. Bytes 2-3: little-endian length of the sealed part."
abbrev pub header : (kind len : ℕ) → List ℕ
header kind len = mark ∷ kind ∷ bytes_of 2 len

-- "Associated data is bytes 0-3": those of a frame that holds this text
abbrev pub ad_of : (kind : ℕ) (text : List ℕ) → List ℕ
ad_of kind text = header kind (length text + 16)

-- "Bytes 4-15: nonce. Then the sealed part."
unfoldable pub frame_of : (kind : ℕ) (key nonce text : List ℕ) → List ℕ
frame_of kind key nonce text = ad_of kind text ++ (nonce ++ sealed key nonce (ad_of kind text) text)

-- and of a frame's bytes
abbrev pub ad_in : List ℕ → List ℕ
ad_in s = take 4 s

abbrev pub nonce_in : List ℕ → List ℕ
nonce_in s = take 12 (drop 4 s)

abbrev pub sealed_in : List ℕ → List ℕ
sealed_in s = take (sealed_len s) (drop 16 s)

-- the text that its sealed part claims
abbrev pub opened_in : (key s : List ℕ) → List ℕ
opened_in key s = opened key (nonce_in s) (sealed_in s)
