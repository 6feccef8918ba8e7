-- The counter blocks, RFC 8452 section 4, AES_CTR. Assumes nothing.
use Rattle.std.specs.Prelude.{ℕ, ◌+◌, ◌%◌, ◌^◌, List, ◌++◌, get_or, set, take, drop}
use Rattle.std.specs.Int.Bits.{bit_or}
use Rattle.octets.specs.Numbers.{number, bytes_of}
use Rattle.modes.specs.Stream.{masked}

-- the first: the tag, with the top bit of its last byte set
unfoldable pub counter_block : (tag : List ℕ) → List ℕ
counter_block tag = set tag 15 (bit_or (get_or tag 15 0) 0x80)

-- the next: the first four bytes, little-endian, count on and wrap at 2^32; the other twelve stay
unfoldable pub next_counter : List ℕ → List ℕ
next_counter b = bytes_of 4 ((number (take 4 b) + 1) % 2 ^ 32) ++ drop 4 b

-- a text under the key stream that begins at a tag's counter block
abbrev pub mask_under : (cipher : List ℕ → List ℕ) (tag text : List ℕ) → List ℕ
mask_under cipher tag text = masked next_counter cipher (counter_block tag) text
