-- The S-box, FIPS 197 section 5.1.1: the inverse, zero for zero, then an affine map. Assumes nothing.
use Rattle.std.specs.Prelude.{List, ℕ, zero, suc, ◌+◌, ◌*◌, ◌/◌, ◌%◌, ◌^◌}
use Rattle.fips197.specs.Table.{tab}
use Rattle.fips197.specs.Field.{inverse}

-- bit i of b, with i taken modulo 8
abbrev pub bit : ℕ → ℕ → ℕ
bit b i = b / 2 ^ (i % 8) % 2

-- bit i of the result is b_i + b_(i+4) + b_(i+5) + b_(i+6) + b_(i+7) + c_i, where c = {63}
abbrev pub affine_bit : ℕ → ℕ → ℕ
affine_bit b i = (bit b i + bit b (i + 4) + bit b (i + 5) + bit b (i + 6) + bit b (i + 7) + bit 0x63 i) % 2

-- the number with the n low bits f 0, f 1, ..
abbrev pub bits : ℕ → (ℕ → ℕ) → ℕ
bits zero f = 0
bits (suc n) f = bits n f + f n * 2 ^ n

unfoldable pub affine : ℕ → ℕ
affine b = bits 8 (affine_bit b)

unfoldable pub sbox : ℕ → ℕ
sbox b = affine (inverse b)

-- the S-box of every byte, in order
unfoldable pub sbox_table : List ℕ
sbox_table = tab 256 sbox
