-- The laws of `xor_bytes`: lengths, parts, and that adding twice goes out. Assumes nothing.
use Prim.Native.Nat.{ℕ, zero, suc, ◌+◌, ◌≤◌, ◌<◌, min}
use mathlib.Core.Path.{◌≡◌, refl, sym, ap, ◌∙◌}
use mathlib.Core.List.{List, [], ◌∷◌, ◌++◌}
use mathlib.Core.Bool.{Bool, true, false}
use native.Mathlib.Nat.{not-suc-le-zero, le_of_suc-le-suc}
use native.Mathlib.Omega.{arith}
use native.Mathlib.Numerals.{add-one}
use borrow.Author.Tests.{leb-true, leb-false}
use lib.Dec.{leb}
use lib.ListN.{length, get_or, set, take, drop, take-append-drop}
use lib.Seq.{take_all, length-take-le}
use Rattle.octets.specs.Xor.{◌⊕◌}
use Rattle.octets.proofs.Xor.{⊕-comm, ⊕-twice}
use Rattle.octets.specs.Strings.{xor_bytes}

pub xor_length : (t k : List ℕ) → length (xor_bytes t k) ≡ length t
unfolding xor_bytes
xor_length [] k = refl
xor_length (x ∷ t) [] = refl
xor_length (x ∷ t) (y ∷ k) = ap suc (xor_length t k)

pub xor_nil : (t : List ℕ) → xor_bytes t [] ≡ t
unfolding xor_bytes
xor_nil [] = refl
xor_nil (x ∷ t) = refl

-- what is added twice goes out
pub xor_twice : (t k : List ℕ) → xor_bytes (xor_bytes t k) k ≡ t
unfolding xor_bytes
xor_twice [] k = refl
xor_twice (x ∷ t) [] = refl
xor_twice (x ∷ t) (y ∷ k) = λ i. (⊕-comm (x ⊕ y) y ∙ ap (λ z. y ⊕ z) (⊕-comm x y) ∙ ⊕-twice y x) i ∷ xor_twice t k i

-- it goes place by place, so cuts pass through it
pub take_xor : (n : ℕ) (t k : List ℕ) → take n (xor_bytes t k) ≡ xor_bytes (take n t) k
unfolding xor_bytes
take_xor zero t k = refl
take_xor (suc n) [] k = refl
take_xor (suc n) (x ∷ t) [] = refl
take_xor (suc n) (x ∷ t) (y ∷ k) = ap (λ (l : List ℕ). (x ⊕ y) ∷ l) (take_xor n t k)

pub drop_xor : (n : ℕ) (t k : List ℕ) → drop n (xor_bytes t k) ≡ xor_bytes (drop n t) (drop n k)
unfolding xor_bytes
drop_xor zero t k = refl
drop_xor (suc n) [] k = refl
drop_xor (suc n) (x ∷ t) [] = sym (xor_nil (drop n t))
drop_xor (suc n) (x ∷ t) (y ∷ k) = drop_xor n t k

-- the second part of a pad goes to what stands behind the first
pub xor_++ : (t a b : List ℕ) → xor_bytes t (a ++ b) ≡ take (length a) (xor_bytes t a) ++ xor_bytes (drop (length a) (xor_bytes t a)) b
unfolding xor_bytes
xor_++ [] [] b = refl
xor_++ [] (y ∷ a) b = refl
xor_++ (x ∷ t) [] b = refl
xor_++ (x ∷ t) (y ∷ a) b = ap (λ (l : List ℕ). (x ⊕ y) ∷ l) (xor_++ t a b)

-- what of a pad the text does not reach plays no part
pub xor_short : (t a b : List ℕ) → length t ≤ length a → xor_bytes t (a ++ b) ≡ xor_bytes t a
unfolding xor_bytes
xor_short [] a b h = refl
xor_short (x ∷ t) [] b h = absurd (not-suc-le-zero h)
xor_short (x ∷ t) (y ∷ a) b h = ap (λ (l : List ℕ). (x ⊕ y) ∷ l) (xor_short t a b (le_of_suc-le-suc h))

-- a turn of a loop that adds a pad byte by byte
one_more : (t k : List ℕ) (i : ℕ) → i < length t → i < length k
    → set (xor_bytes t (take i k)) i (get_or (xor_bytes t (take i k)) i 0 ⊕ get_or k i 0) ≡ xor_bytes t (take (suc i) k)
unfolding xor_bytes
one_more [] k i h l = absurd (not-suc-le-zero h)
one_more (x ∷ t) [] i h l = absurd (not-suc-le-zero l)
one_more (x ∷ t) (y ∷ k) zero h l = ap (λ (z : List ℕ). (x ⊕ y) ∷ z) (sym (xor_nil t))
one_more (x ∷ t) (y ∷ k) (suc i) h l = ap (λ (z : List ℕ). (x ⊕ y) ∷ z) (one_more t k i (le_of_suc-le-suc h) (le_of_suc-le-suc l))

pub xor_turn : (t k out : List ℕ) (i v : ℕ) → i < length t → i < length k → out ≡ xor_bytes t (take i k) → v ≡ get_or out i 0 ⊕ get_or k i 0
    → set out i v ≡ xor_bytes t (take (i + 1) k)
xor_turn t k out i v h l e ev =
    (λ j. set (e j) i ((ev ∙ ap (λ (o : List ℕ). get_or o i 0 ⊕ get_or k i 0) e) j)) ∙ one_more t k i h l ∙ ap (λ n. xor_bytes t (take n k)) (sym (add-one i))

-- a pad is used up where it ends or the text does
pub xor_reached : (n : ℕ) (t k : List ℕ) → n ≡ min (length k) (length t) → xor_bytes t (take n k) ≡ xor_bytes t k
xor_reached n t k e = by_order (leb (length k) (length t)) refl
  where
    by_order : (b : Bool) → leb (length k) (length t) ≡ b → xor_bytes t (take n k) ≡ xor_bytes t k
    by_order true h = ap (xor_bytes t) (take_all n k (omega (arith, leb-true)))
    by_order false h =
        let l : length t ≤ length (take n k) = rw (length-take-le n k (omega (arith, leb-false))) (omega (arith, leb-false)) in
        sym (ap (xor_bytes t) (sym (take-append-drop n k)) ∙ xor_short t (take n k) (drop n k) l)
