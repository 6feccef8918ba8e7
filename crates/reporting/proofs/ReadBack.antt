-- What is shown can be read back: two texts that are shown alike are alike, so that nothing can be taken for an escape that is none,
-- and no escape for text. Assumes nothing.
use Prim.Native.Nat.{ℕ, zero, suc, ◌+◌, ◌-◌, ◌*◌, ◌/◌, ◌%◌, ◌≤◌, ◌<◌}
use mathlib.Core.Path.{◌≡◌, refl, sym, ap, ◌∙◌}
use mathlib.Core.List.{List, [], ◌∷◌, ◌++◌}
use mathlib.Core.Bool.{Bool, true, false, cond}
use native.Mathlib.Omega.{arith}
use borrow.Author.Tests.{lt-ltb, le-ltb, ltb-true, ltb-false}
use lib.Dec.{ltb, leb, eqb}
use lib.ListN.{length, get_or, drop}
use Rattle.octets.proofs.Numbers.{Bytes}
use Rattle.reporting.specs.Escapes.{plain, hex_digit, hex_escape, shown, escaped}
use Rattle.logic.proofs.Tests.{no}

unfoldable hex_value : ℕ → ℕ
hex_value c = cond (ltb c 58) (c - 48) (c - 87)

-- a backslash is read with the three characters behind it
unfoldable read_back : ℕ → List ℕ → List ℕ
read_back zero s = []
read_back (suc k) [] = []
read_back (suc k) (c ∷ s) = cond (eqb c 0x5C) ((hex_value (get_or s 1 0) * 16 + hex_value (get_or s 2 0)) ∷ read_back k (drop 3 s)) (c ∷ read_back k s)

hex_back : (d : ℕ) → d < 16 → hex_value (hex_digit d) ≡ d
unfolding hex_value
hex_back d h = by_test (ltb d 10) refl
  where
    by_test : (b : Bool) → ltb d 10 ≡ b → cond (ltb (cond b (48 + d) (87 + d)) 58) (cond b (48 + d) (87 + d) - 48) (cond b (48 + d) (87 + d) - 87) ≡ d
    by_test true e = let l = ltb-true d 10 e in simp (lt-ltb (48 + d) 58 (omega arith)) (omega arith)
    by_test false e = let l = ltb-false d 10 e in simp (le-ltb (87 + d) 58 (omega arith)) (omega arith)

-- the backslash itself is not plain
plain_other : (b : ℕ) → plain b ≡ true → eqb b 0x5C ≡ false
plain_other b = by_test (eqb b 0x5C)
  where
    by_test : (t : Bool) → cond t false (cond (leb 0x20 b) (leb b 0x7E) false) ≡ true → t ≡ false
    by_test true h = no h
    by_test false h = refl

byte_back : (k b : ℕ) (s : List ℕ) → b < 256 → read_back (suc k) (shown b ++ s) ≡ b ∷ read_back k s
unfolding read_back shown
byte_back k b s h = by_test (plain b) refl
  where
    by_test : (t : Bool) → plain b ≡ t → read_back (suc k) (cond t (b ∷ []) (hex_escape b) ++ s) ≡ b ∷ read_back k s
    by_test true e = rw (plain_other b e)
    by_test false e =
        let hi : hex_value (hex_digit (b / 16)) ≡ b / 16 = hex_back (b / 16) (omega arith) in
        let lo : hex_value (hex_digit (b % 16)) ≡ b % 16 = hex_back (b % 16) (omega arith) in
        let all : b / 16 * 16 + b % 16 ≡ b = omega arith in
        (λ i. (hi i * 16 + lo i) ∷ read_back k s) ∙ ap (λ (x : ℕ). x ∷ read_back k s) all

read_back_lem : (k : ℕ) (s : List ℕ) → length s ≤ k → Bytes s → read_back k (escaped s) ≡ s
unfolding escaped read_back
read_back_lem zero [] l h = refl
read_back_lem (suc k) [] l h = refl
read_back_lem zero (b ∷ s) l h = absurd (omega arith)
read_back_lem (suc k) (b ∷ s) l (h, hs) = byte_back k b (escaped s) h ∙ ap (λ (x : List ℕ). b ∷ x) (read_back_lem k s (omega arith) hs)

-- two texts that are shown alike are alike
pub told_apart : (s t : List ℕ) → Bytes s → Bytes t → escaped s ≡ escaped t → s ≡ t
told_apart s t hs ht e =
    sym (read_back_lem (length s + length t) s (omega arith) hs) ∙ ap (read_back (length s + length t)) e ∙ read_back_lem (length s + length t) t (omega arith) ht
