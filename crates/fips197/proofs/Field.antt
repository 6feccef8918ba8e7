-- Laws of GF(2^8). Those of every byte are computed once, at all 256. Assumes nothing.
use mathlib.Core.Path.{◌≡◌, refl}
use Prim.Native.Nat.{ℕ, ◌*◌, ◌/◌, ◌%◌, ◌<◌, min}
use lib.Dec.{lit<}
use Rattle.octets.specs.Xor.{◌⊕◌}
use Rattle.gf2.specs.Carryless.{clmul_n, clmul}
use Rattle.gf2.specs.Remainder.{times_x, remainder_n, remainder}
use Rattle.gf2.proofs.Remainder.{Monic, remainder_lt}
use Rattle.fips197.specs.Table.{tab}
use Rattle.fips197.specs.Field.{gmul, powers, inverse}
use Rattle.fips197.proofs.Table.{agree}

monic : Monic 0x11b 8
monic = record { top = refl; proper = lit< tt }

pub gmul_lt : (a b : ℕ) → gmul a b < 256
unfolding gmul
gmul_lt a b = remainder_lt monic (clmul a b)

inverts : tab 256 (λ x. gmul x (inverse x)) ≡ tab 256 (λ x. min x 1)
unfolding inverse powers gmul remainder remainder_n times_x clmul clmul_n ◌⊕◌
inverts = refl

-- a byte but zero times its inverse is one
pub inverse_law : (x : ℕ) → x < 256 → gmul x (inverse x) ≡ min x 1
inverse_law x h = agree 256 (λ x. gmul x (inverse x)) (λ x. min x 1) inverts x h

pub inverse_zero : inverse 0 ≡ 0
unfolding inverse powers gmul remainder remainder_n times_x clmul clmul_n ◌⊕◌
inverse_zero = refl

-- a shift, and the modulus where it overflows
doubles : tab 256 (λ x. (x * 2 % 256) ⊕ (x / 128 * 0x1b)) ≡ tab 256 (gmul 2)
unfolding gmul remainder remainder_n times_x clmul clmul_n ◌⊕◌
doubles = refl

pub double_law : (x : ℕ) → x < 256 → (x * 2 % 256) ⊕ (x / 128 * 0x1b) ≡ gmul 2 x
double_law x h = agree 256 (λ x. (x * 2 % 256) ⊕ (x / 128 * 0x1b)) (gmul 2) doubles x h
