-- The order 9, 10, 11, 12 on few bytes: "In a frame a missing byte that a check needs is 12 at that check." And that the length's second byte is
-- read: 256 bytes and more are no kind's. Assumes nothing.
use Prim.Native.Nat.{ℕ, suc, ◌+◌, ◌*◌, ◌≤◌}
use mathlib.Core.Path.{◌≡◌, refl, sym}
use mathlib.Core.List.{List, [], ◌∷◌}
use mathlib.Core.Bool.{Bool, true, false}
use native.Mathlib.Omega.{arith}
use lib.ListN.{replicate}
use Rattle.framing.specs.Kinds.{table, row_of, is_known, is_allowed}
use Rattle.framing.specs.Front.{Whole, Stop, checks, stop_of, front_of}
use Rattle.framing.proofs.Rows.{allowed_bounds}
use Rattle.framing.proofs.Fronts.{wrong_length}
use Rattle.framing.proofs.Numbers.{longest_plaintext}

-- nothing at hand
pub no_byte : (front_of [] ≡ Stop 12) × (stop_of [] ≡ 12)
unfolding checks front_of
no_byte = (refl, refl)

-- a mark or none, and no kind
pub one_byte : (front_of (0x4B ∷ []) ≡ Stop 12) × (front_of (0x4C ∷ []) ≡ Stop 9) × (front_of (0x4A ∷ []) ≡ Stop 9) × (front_of (0 ∷ []) ≡ Stop 9)
unfolding checks front_of
one_byte = (refl, refl, refl, refl)

-- a kind or none, and no length; a wrong mark is told first
pub two_bytes : (front_of (0x4B ∷ 1 ∷ []) ≡ Stop 12) × (front_of (0x4B ∷ 2 ∷ []) ≡ Stop 12) × (front_of (0x4B ∷ 3 ∷ []) ≡ Stop 12)
    × (front_of (0x4B ∷ 0 ∷ []) ≡ Stop 10) × (front_of (0x4B ∷ 4 ∷ []) ≡ Stop 10) × (front_of (0x4C ∷ 4 ∷ []) ≡ Stop 9) × (front_of (0x4C ∷ 1 ∷ []) ≡ Stop 9)
unfolding checks front_of is_known row_of table
two_bytes = (refl, refl, refl, refl, refl, refl, refl)

-- half a length tells nothing, whatever it would be with its other half
pub three_bytes : (front_of (0x4B ∷ 1 ∷ 32 ∷ []) ≡ Stop 12) × (front_of (0x4B ∷ 1 ∷ 33 ∷ []) ≡ Stop 12) × (front_of (0x4B ∷ 4 ∷ 33 ∷ []) ≡ Stop 10) × (front_of (0x4C ∷ 4 ∷ 33 ∷ []) ≡ Stop 9)
unfolding checks front_of is_known is_allowed row_of table
three_bytes = (refl, refl, refl, refl)

-- a length, and nothing behind it: a wrong one is 11, a right one 12; a wrong kind or mark is told first
pub four_bytes : (front_of (0x4B ∷ 1 ∷ 32 ∷ 0 ∷ []) ≡ Stop 12) × (front_of (0x4B ∷ 1 ∷ 33 ∷ 0 ∷ []) ≡ Stop 11) × (front_of (0x4B ∷ 4 ∷ 33 ∷ 0 ∷ []) ≡ Stop 10)
    × (front_of (0x4C ∷ 4 ∷ 33 ∷ 0 ∷ []) ≡ Stop 9) × (front_of (0x4C ∷ 1 ∷ 32 ∷ 0 ∷ []) ≡ Stop 9)
unfolding checks front_of is_known is_allowed row_of table
four_bytes = (refl, refl, refl, refl, refl)

-- the same four bytes with 1 for the length's second: 11, even of what would be a kind's own length without it
pub high_byte : (front_of (0x4B ∷ 1 ∷ 32 ∷ 1 ∷ []) ≡ Stop 11) × (front_of (0x4B ∷ 2 ∷ 17 ∷ 1 ∷ []) ≡ Stop 11) × (front_of (0x4B ∷ 3 ∷ 16 ∷ 1 ∷ []) ≡ Stop 11)
unfolding checks front_of is_known is_allowed row_of table
high_byte = (refl, refl, refl)

-- a whole frame of each kind: the shortest and the longest text too, and with a byte behind it
pub whole_frames : (front_of (0x4B ∷ 1 ∷ 32 ∷ 0 ∷ replicate 44 7) ≡ Whole 1 48) × (front_of (0x4B ∷ 2 ∷ 17 ∷ 0 ∷ replicate 29 7) ≡ Whole 2 33)
    × (front_of (0x4B ∷ 2 ∷ 176 ∷ 0 ∷ replicate 188 7) ≡ Whole 2 192) × (front_of (0x4B ∷ 3 ∷ 16 ∷ 0 ∷ replicate 28 7) ≡ Whole 3 32) × (front_of (0x4B ∷ 3 ∷ 16 ∷ 0 ∷ replicate 29 7) ≡ Whole 3 32)
    × (stop_of (0x4B ∷ 3 ∷ 16 ∷ 0 ∷ replicate 28 7) ≡ 0)
unfolding checks front_of is_known is_allowed row_of table
whole_frames = (refl, refl, refl, refl, refl, refl)

-- and with one byte less
pub cut_frames : (front_of (0x4B ∷ 1 ∷ 32 ∷ 0 ∷ replicate 43 7) ≡ Stop 12) × (front_of (0x4B ∷ 2 ∷ 176 ∷ 0 ∷ replicate 187 7) ≡ Stop 12) × (front_of (0x4B ∷ 3 ∷ 16 ∷ 0 ∷ replicate 27 7) ≡ Stop 12)
unfolding checks front_of is_known is_allowed row_of table
cut_frames = (refl, refl, refl)

-- no kind has a sealed part of 256 bytes or more
pub from_256_on : (kind n : ℕ) → 256 ≤ n → is_allowed kind n ≡ false
from_256_on kind n h = by (is_allowed kind n) refl
  where
    by : (b : Bool) → is_allowed kind n ≡ b → b ≡ false
    by false e = refl
    by true e = let b = allowed_bounds kind n e in let m = longest_plaintext.2 in absurd (omega arith)

-- so it is 11 whatever follows, as 9 and 10 are
pub second_byte_is_11 : (kind low high : ℕ) (rest : List ℕ) → is_known kind ≡ true → front_of (0x4B ∷ kind ∷ low ∷ suc high ∷ rest) ≡ Stop 11
second_byte_is_11 kind low high rest k =
    sym (wrong_length (0x4B ∷ kind ∷ low ∷ suc high ∷ rest) (omega arith) refl (omega arith) k (omega arith) (from_256_on kind (low + suc high * 256) (omega arith)))
