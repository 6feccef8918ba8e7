-- Laws of `same_bytes`, and of the differences that a loop gathers. Assumes nothing.
use Prim.Native.Nat.{ℕ, zero, suc, ◌+◌, ◌<◌}
use mathlib.Core.Path.{◌≡◌, refl, sym, ap, ap₂, ◌∙◌}
use mathlib.Core.List.{List, [], ◌∷◌}
use mathlib.Core.Bool.{Bool, true, false, cond}
use native.Mathlib.Nat.{not-suc-le-zero, le_of_suc-le-suc}
use native.Mathlib.Omega.{arith}
use native.Mathlib.Numerals.{add-one}
use borrow.Author.Tests.{eq-eqb, ne_eqb, eqb-true, eqb-false}
use lib.Dec.{eqb}
use lib.Bits.{bit_xor, bit_or, or_add_and, xor_add_and, and_le_l, and_le_r, xor_self, or_zero_l}
use lib.ListN.{length, get_or, take}
use Rattle.logic.proofs.Tests.{no}
use Rattle.octets.specs.Strings.{same_bytes}

xor_none : (x y : ℕ) → bit_xor x y ≡ 0 → x ≡ y
xor_none x y e = omega (arith, xor_add_and x y, and_le_l x y, and_le_r x y)

or_none : (d e : ℕ) → bit_or d e ≡ 0 → (d ≡ 0) × (e ≡ 0)
or_none d e h = (omega (arith, or_add_and d e, and_le_l d e, and_le_r d e), omega (arith, or_add_and d e, and_le_l d e, and_le_r d e))

gather : (d x y : ℕ) (p q : Bool) → eqb d 0 ≡ p → eqb x y ≡ q → eqb (bit_or d (bit_xor x y)) 0 ≡ cond p q false
gather d x y true true e f = eq-eqb (bit_or d (bit_xor x y)) 0 (ap (λ (n : ℕ). bit_or n (bit_xor x y)) (eqb-true d 0 e) ∙ or_zero_l (bit_xor x y) ∙ ap (bit_xor x) (sym (eqb-true x y f)) ∙ xor_self x)
gather d x y true false e f = ne_eqb _ _ (λ z. eqb-false x y f (xor_none x y (or_none d (bit_xor x y) z).1))
gather d x y false q e f = ne_eqb _ _ (λ z. eqb-false d 0 e (or_none d (bit_xor x y) z).0)

and_in : (c p q : Bool) → cond c (cond p q false) false ≡ cond (cond c p false) q false
and_in true p q = refl
and_in false p q = refl

grown : (a b : List ℕ) (i : ℕ) → i < length a → i < length b → same_bytes (take (suc i) a) (take (suc i) b) ≡ cond (same_bytes (take i a) (take i b)) (eqb (get_or a i 0) (get_or b i 0)) false
unfolding same_bytes
grown [] b i h k = absurd (not-suc-le-zero h)
grown (x ∷ a) [] i h k = absurd (not-suc-le-zero k)
grown (x ∷ a) (y ∷ b) zero h k = last (eqb x y)
  where
    last : (c : Bool) → cond c true false ≡ c
    last true = refl
    last false = refl
grown (x ∷ a) (y ∷ b) (suc i) h k =
    ap (λ (r : Bool). cond (eqb x y) r false) (grown a b i (le_of_suc-le-suc h) (le_of_suc-le-suc k))
    ∙ and_in (eqb x y) (same_bytes (take i a) (take i b)) (eqb (get_or a i 0) (get_or b i 0))

pub start : (a b : List ℕ) → eqb 0 0 ≡ same_bytes (take 0 a) (take 0 b)
unfolding same_bytes
start a b = refl

-- a turn, of the bytes at place i
pub turn : (a b : List ℕ) (i d : ℕ) {x y n : ℕ} → i < length a → i < length b → x ≡ get_or a i 0 → y ≡ get_or b i 0 → n ≡ i + 1
    → eqb d 0 ≡ same_bytes (take i a) (take i b) → eqb (bit_or d (bit_xor x y)) 0 ≡ same_bytes (take n a) (take n b)
turn a b i d h k ex ey en e =
    ap₂ (λ x y. eqb (bit_or d (bit_xor x y)) 0) ex ey ∙ gather d (get_or a i 0) (get_or b i 0) _ _ e refl
    ∙ sym (ap (λ (n : ℕ). same_bytes (take n a) (take n b)) (en ∙ add-one i) ∙ grown a b i h k)

-- it says yes exactly where the two are equal
pub same_is : (a b : List ℕ) → same_bytes a b ≡ true → a ≡ b
unfolding same_bytes
same_is [] [] e = refl
same_is [] (y ∷ b) e = no (cc)
same_is (x ∷ a) [] e = no (cc)
same_is (x ∷ a) (y ∷ b) e = both (eqb x y) refl e (same_is a b)
  where
    both : (c : Bool) → eqb x y ≡ c → cond c (same_bytes a b) false ≡ true → (same_bytes a b ≡ true → a ≡ b) → x ∷ a ≡ y ∷ b
    both true p q r = λ i. eqb-true x y p i ∷ r q i
    both false p q r = no (cc)

pub same_self : (a : List ℕ) → same_bytes a a ≡ true
unfolding same_bytes
same_self [] = refl
same_self (x ∷ a) = simp (eq-eqb x x refl) (same_self a)
