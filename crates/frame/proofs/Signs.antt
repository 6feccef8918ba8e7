-- The two's complement of 32 bits, as std casts. Assumes nothing.
use Prim.Native.Nat.{ℕ, suc, ◌-◌, ◌^◌}
use mathlib.Core.Path.{◌≡◌, refl, ap, ◌∙◌}
use mathlib.Core.Bool.{Bool, true, false, cond}
use native.Mathlib.Omega.{arith}
use lib.IntN.{ℤ, pos, negsuc}
use lib.Dec.{ltb}
use mir.Syntax.{w32}
use mir.Val.{to_z, of_z, sel, SFits}
use mir.Facts.{to_z-of_z}
use Rattle.framing.specs.Signed.{signed, bits_of}

-- std's casts between a signed number and its bits are those of the definitions
cast_to : (n : ℕ) → to_z w32 n ≡ signed n
cast_to n = by (ltb n (2 ^ 31))
  where
    by : (b : Bool) → sel b (pos n) (negsuc (2 ^ 32 - suc n)) ≡ cond b (pos n) (negsuc (2 ^ 32 - 1 - n))
    by true = refl
    by false = ap negsuc (omega arith)

cast_from : (z : ℤ) → of_z w32 z ≡ bits_of z
cast_from (pos n) = refl
cast_from (negsuc n) = omega arith

pub signed_read : {z : ℤ} {n m : ℕ} → SFits w32 z → z ≡ to_z w32 n → n ≡ m → to_z w32 (of_z w32 z) ≡ signed m
signed_read {m = m} f e h = to_z-of_z f ∙ e ∙ ap (to_z w32) h ∙ cast_to m

pub signed_written : (z : ℤ) → SFits w32 z → of_z w32 (to_z w32 (of_z w32 z)) ≡ bits_of z
signed_written z f = ap (of_z w32) (to_z-of_z f) ∙ cast_from z
