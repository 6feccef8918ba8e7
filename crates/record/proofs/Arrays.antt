-- Arrays that a function has filled: by each element of another, and by each index. Assumes nothing.
use Rattle.std.proofs.Common.{◌≡◌, ℕ, zero, suc, ◌+◌, ◌<◌, List, [], ◌∷◌, map, length, get_or, sym, ap, ◌∙◌, subst, arith}
use Rattle.std.proofs.lemmas.List.{same_lists, nil_from_length, length-map, get_or-map}
use Rattle.std.specs.Array.{IsMapOf, IsFromFnResult, IsFromFnResultFrom}
use denote.Param.Members.{Mut, Called}

-- where each call gave `h` of its element
pub mapped : {F A B : Type 0} (g : Mut F (A × Unit {0}) B) (f : F) (xs : List A) (ys : List B) (n : ℕ) (h : A → B)
    → IsMapOf g f xs ys n → length xs ≡ n → ((p q : F) (x : A) (y : B) → Called g p (x, tt) y q → y ≡ h x) → ys ≡ map h xs
mapped g f [] ys n h m l says = nil_from_length ys (m.long ∙ sym l)
mapped g f (x ∷ xs) ys n h m l says =
    same_lists ys (map h (x ∷ xs)) (m.long ∙ sym l ∙ sym (length-map (x ∷ xs) h)) (λ k e i.
    let called = m.at k x e (omega (arith, i, m.long)) in
    says called.0 called.1 (get_or (x ∷ xs) k x) (get_or ys k e) called.2 ∙ sym (get_or-map h (x ∷ xs) k x e (omega (arith, i, l, m.long))))

-- where each call gave `h` of its index, and left the function as it was
module _ {F B : Type 0} (g : Mut F (ℕ × Unit {0}) B) (f : F) (ys : List B) (h : ℕ → B) where
  each : (m i : ℕ) → IsFromFnResultFrom g f ys i m → ((k : ℕ) (y : B) (q : F) → k < i + m → Called g f (k, tt) y q → (q ≡ f) × (y ≡ h k))
      → (k : ℕ) (d : B) → k < m → get_or ys (i + k) d ≡ h (i + k)
  each zero i e says k d l = absurd (omega arith)
  each (suc m) i e says zero d l =
      let here : i + 0 ≡ i = omega arith in
      ap (λ (n : ℕ). get_or ys n d) here ∙ e.2.1 d ∙ (says i e.1 e.0 (omega arith) e.3).1 ∙ sym (ap h here)
  each (suc m) i e says (suc k) d l =
      let there : i + 1 + k ≡ i + suc k = omega arith in
      let same = (says i e.1 e.0 (omega arith) e.3).0 in
      subst (λ (n : ℕ). get_or ys n d ≡ h n) there
      (each m (i + 1) (subst (λ (s : F). IsFromFnResultFrom g s ys (i + 1) m) same e.4) (λ j y q j-in called. says j y q (omega (arith, j-in)) called) k d (omega arith))

  pub filled : (zs : List B) (n : ℕ) → IsFromFnResult g f ys n → ((k : ℕ) (y : B) (q : F) → k < n → Called g f (k, tt) y q → (q ≡ f) × (y ≡ h k))
      → length zs ≡ n → ((i : ℕ) (d : B) → i < n → get_or zs i d ≡ h i) → ys ≡ zs
  filled zs n m says l at =
      same_lists ys zs (m.long ∙ sym l) (λ k d i.
      let k-in : k < n = omega (arith, i, m.long) in
      let same : 0 + k ≡ k = omega arith in
      subst (λ (j : ℕ). get_or ys j d ≡ h j) same (each n 0 m.each (λ j y q j-in called. says j y q (omega (arith, j-in)) called) k d k-in) ∙ sym (at k d k-in))
