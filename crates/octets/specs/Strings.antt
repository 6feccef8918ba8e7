-- Byte strings combined, copied and compared. Assumes nothing.
use Rattle.std.specs.Prelude.{ℕ, Bool, true, false, cond, List, [], ◌∷◌, eqb, length, take}
use Rattle.octets.specs.Xor.{◌⊕◌}
use Rattle.octets.specs.Places.{over}

-- each byte of t plus the byte of k at its place; where k has run out, t stays as it is
unfoldable pub xor_bytes : (t k : List ℕ) → List ℕ
xor_bytes [] k = []
xor_bytes (x ∷ t) [] = x ∷ t
xor_bytes (x ∷ t) (y ∷ k) = (x ⊕ y) ∷ xor_bytes t k

-- src over the front of dst, as much of it as fits; what stands behind it stays
unfoldable pub copied : (src dst : List ℕ) → List ℕ
copied src dst = over (take (length dst) src) dst

-- whether two strings are the same
unfoldable pub same_bytes : (a b : List ℕ) → Bool
same_bytes [] [] = true
same_bytes [] (y ∷ b) = false
same_bytes (x ∷ a) [] = false
same_bytes (x ∷ a) (y ∷ b) = cond (eqb x y) (same_bytes a b) false
