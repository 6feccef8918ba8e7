-- The S-box gives bytes, and its table has each. Assumes nothing.
use mathlib.Core.Path.{◌≡◌}
use Prim.Native.Nat.{ℕ, zero, suc, ◌+◌, ◌*◌, ◌^◌, ◌<◌}
use native.Mathlib.Nat.{pow-suc, mod-lt, zero-lt-suc}
use native.Mathlib.Omega.{arith}
use lib.ListN.{length, get_or}
use Rattle.fips197.specs.Field.{inverse}
use Rattle.fips197.specs.Sbox.{bits, affine_bit, affine, sbox, sbox_table}
use Rattle.fips197.proofs.Table.{tab_length, tab_get_d}

bits_lt : (n : ℕ) (f : ℕ → ℕ) → ((i : ℕ) → f i < 2) → bits n f < 2 ^ n
bits_lt zero f h = zero-lt-suc 0
bits_lt (suc n) f h =
    let p : ℕ = 2 ^ n in
    let b : ℕ = bits n f in
    let l : b < p = bits_lt n f h in
    let d : f n < 2 = h n in
    rw (pow-suc 2 n) (digit b p (f n) l d)
  where
    digit : (b p d : ℕ) → b < p → d < 2 → b + d * p < p * 2
    digit b p zero l h = omega arith
    digit b p (suc zero) l h = omega arith
    digit b p (suc (suc d)) l h = absurd (omega arith)

pub sbox_lt : (x : ℕ) → sbox x < 256
unfolding sbox affine
sbox_lt x = bits_lt 8 (affine_bit (inverse x)) (λ i. mod-lt _ (zero-lt-suc 1))

-- the table has an entry for every byte, its S-box value
pub sbox_table_length : length sbox_table ≡ 256
unfolding sbox_table
sbox_table_length = tab_length 256 sbox

pub sbox_table_at : (x : ℕ) → x < 256 → get_or sbox_table x 0 ≡ sbox x
unfolding sbox_table
sbox_table_at x h = tab_get_d 256 sbox x h
