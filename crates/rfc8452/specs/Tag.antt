-- The tag of a message, RFC 8452 section 4, under a hash key h and a block cipher. Assumes nothing.
use Rattle.std.specs.Prelude.{ℕ, ◌*◌, List, ◌++◌, length, get_or, set}
use Rattle.std.specs.Int.Bits.{bit_and}
use Rattle.octets.specs.Numbers.{bytes_of}
use Rattle.rfc8452.specs.Machine.{polyval}
use Rattle.rfc8452.specs.Blocks.{blocks}
use Rattle.octets.specs.Strings.{xor_bytes}

-- the lengths of associated data and text in bits, each as 64 bits little-endian
abbrev pub length_block : (ad text : ℕ) → List ℕ
length_block ad text = bytes_of 8 (ad * 8) ++ bytes_of 8 (text * 8)

-- S_s: POLYVAL of the associated data, the text, each padded with zeros by itself, and the length block
unfoldable pub hashed : (h : ℕ) (ad text : List ℕ) → ℕ
hashed h ad text = polyval h (blocks ad ++ (blocks text ++ blocks (length_block (length ad) (length text))))

-- the top bit of the last byte cleared
abbrev pub without_top : List ℕ → List ℕ
without_top b = set b 15 (bit_and (get_or b 15 0) 0x7f)

-- S_s with the nonce added to its first 12 bytes, without that bit
unfoldable pub tag_block : (nonce : List ℕ) (s : ℕ) → List ℕ
tag_block nonce s = without_top (xor_bytes (bytes_of 16 s) nonce)

-- the tag: that block, encrypted
unfoldable pub tag_under : (h : ℕ) (cipher : List ℕ → List ℕ) (nonce ad text : List ℕ) → List ℕ
tag_under h cipher nonce ad text = cipher (tag_block nonce (hashed h ad text))
