-- Two's complement of 32 bits, there and back. Assumes nothing.
use Prim.Native.Nat.{ℕ, ◌-◌, ◌<◌, ◌^◌}
use mathlib.Core.Path.{◌≡◌, refl, ap}
use mathlib.Core.Bool.{Bool, true, false, cond}
use native.Mathlib.Omega.{arith}
use borrow.Author.Tests.{lt-ltb, le-ltb}
use lib.IntN.{ℤ, pos, negsuc}
use lib.Dec.{ltb}
use mir.Syntax.{w32}
use mir.Val.{SFits}
use Rattle.framing.specs.Signed.{signed, bits_of}

pub signed_bits : (z : ℤ) → SFits w32 z → signed (bits_of z) ≡ z
signed_bits (pos n) f = let h = f.sfits in simp (lt-ltb n (2 ^ 31) (omega arith))
signed_bits (negsuc k) f =
    let h = f.sfits in
    let e : 2 ^ 32 - 1 - (2 ^ 32 - 1 - k) ≡ k = omega arith in
    simp (le-ltb (2 ^ 32 - 1 - k) (2 ^ 31) (omega arith)) (ap negsuc e)

pub bits_signed : (n : ℕ) → n < 2 ^ 32 → bits_of (signed n) ≡ n
bits_signed n h = by_half (ltb n (2 ^ 31)) refl
  where
    by_half : (b : Bool) → ltb n (2 ^ 31) ≡ b → bits_of (cond b (pos n) (negsuc (2 ^ 32 - 1 - n))) ≡ n
    by_half true e = refl
    by_half false e = omega arith

pub bits_lt : (z : ℤ) → SFits w32 z → bits_of z < 2 ^ 32
bits_lt (pos n) f = let h = f.sfits in omega arith
bits_lt (negsuc k) f = omega arith
