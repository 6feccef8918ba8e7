-- RFC 8452's examples of GHASH, computed by SP 800-38D's algorithms, and how bytes become blocks. Assumes nothing.
use mathlib.Core.Path.{◌≡◌, refl}
use mathlib.Core.List.{List, [], ◌∷◌, ◌++◌, reverse}
use Prim.Native.Nat.{ℕ, ◌^◌}
use lib.Dec.{eqb→eq}
use lib.ListN.{replicate}
use Rattle.octets.specs.Xor.{◌⊕◌}
use Rattle.octets.specs.Numbers.{number, bytes_of}
use Rattle.sp800_38d.specs.Ghash.{R, shifted, product_n, ◌•◌, ghash_from, ghash_of, bit_string, bit_blocks_n, bit_blocks}

-- the first byte is the leftmost
pub leftmost_first : bit_string (0x01 ∷ 0x02 ∷ []) ≡ 0x0102
unfolding number
leftmost_first = refl

-- a short last block is filled on its right, and an empty string has none
pub filled_on_the_right : bit_blocks (replicate 16 0 ++ (0x80 ∷ [])) ≡ 0 ∷ 2 ^ 127 ∷ []
unfolding bit_blocks bit_blocks_n number
filled_on_the_right = refl

pub no_block : bit_blocks [] ≡ []
unfolding bit_blocks bit_blocks_n
no_block = refl

-- sixteen bytes as the RFC prints them
abbrev printed : ℕ → List ℕ
printed n = reverse (bytes_of 16 n)

-- RFC 8452, appendix A: GHASH(H, X_1, X_2), computed by SP 800-38D's algorithms
pub rfc_ghash : ghash_of 0x25629347589242761d31f826ba4b757b (0x4f4f95668c83dfb6401762bb2d01a262 ∷ 0xd1a24ddd2721d006bbe45f20d3c9f362 ∷ [])
    ≡ 0xbd9b3997046731fb96251b91f9c99d7a
unfolding ghash_from ◌•◌ product_n shifted R ◌⊕◌
rfc_ghash =
    eqb→eq (ghash_of 0x25629347589242761d31f826ba4b757b (0x4f4f95668c83dfb6401762bb2d01a262 ∷ 0xd1a24ddd2721d006bbe45f20d3c9f362 ∷ []))
    0xbd9b3997046731fb96251b91f9c99d7a tt

-- its mulX_GHASH is the shift of algorithm 1: both examples, and the reversed key by which the RFC gets POLYVAL from GHASH
pub rfc_mulx_ghash : (shifted 0x01000000000000000000000000000000 ≡ 0x00800000000000000000000000000000)
    × (shifted 0x9c98c04df9387ded828175a92ba652d8 ≡ 0x4e4c6026fc9c3ef6c140bad495d3296c)
    × (shifted (number (printed 0x25629347589242761d31f826ba4b757b)) ≡ 0xdcbaa5dd137c188ebb21492c23c9b112)
unfolding shifted R ◌⊕◌ number bytes_of
rfc_mulx_ghash = (
  eqb→eq (shifted 0x01000000000000000000000000000000) 0x00800000000000000000000000000000 tt,
  eqb→eq (shifted 0x9c98c04df9387ded828175a92ba652d8) 0x4e4c6026fc9c3ef6c140bad495d3296c tt,
  eqb→eq (shifted (number (printed 0x25629347589242761d31f826ba4b757b))) 0xdcbaa5dd137c188ebb21492c23c9b112 tt,
)
