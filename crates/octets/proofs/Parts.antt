-- Parts of a list, as code lends them: `&s[i..]` is taken from place i for as many as are left. Assumes nothing.
use Prim.Native.Nat.{ℕ, zero, suc, ◌+◌, ◌-◌, ◌≤◌, min}
use mathlib.Core.Path.{◌≡◌, refl, sym, ap, ◌∙◌}
use mathlib.Core.List.{List, [], ◌∷◌, ◌++◌, append-nil}
use native.Mathlib.Nat.{zero-add, min-eq_left, min-eq_right}
use native.Mathlib.Decide.{dec_le}
use native.Mathlib.Omega.{arith}
use lib.ListN.{length, take, drop, replicate, length-drop, drop_of_length-le}
use lib.Seq.{take_all, take-nil, drop-length, drop-drop}

-- it is all that stands there
pub part_rest : (i : ℕ) (s : List ℕ) → take (length s - i) (drop i s) ≡ drop i s
part_rest i s = take_all (length s - i) (drop i s) (rw length-drop (omega arith))

-- what comes back in its place is the end: nothing stands behind it
pub part_home : (i : ℕ) (s t : List ℕ) → take i s ++ (t ++ drop (length s - i) (drop i s)) ≡ take i s ++ t
part_home i s t =
    ap (λ (l : List ℕ). take i s ++ (t ++ l)) (drop_of_length-le (drop i s) {i = length s - i} (rw length-drop (omega arith)))
    ∙ ap (λ (l : List ℕ). take i s ++ l) (append-nil t)

-- a part of what stands in front
pub drop-take : (m n : ℕ) (l : List ℕ) → drop m (take (m + n) l) ≡ take n (drop m l)
drop-take zero n l = ap (λ k. take k l) (zero-add n)
drop-take (suc m) n [] = ap (drop (suc m)) (take-nil (suc m + n)) ∙ sym (take-nil n)
drop-take (suc m) n (x ∷ l) = let e : suc m + n ≡ suc (m + n) = omega arith in ap (λ k. drop (suc m) (take k (x ∷ l))) e ∙ drop-take m n l

-- a part that ends after k bytes or with the string, as code lends it, and what is behind it
pub part_taken : (i k : ℕ) (s : List ℕ) → i ≤ length s → take (min (i + k) (length s) - i) (drop i s) ≡ take k (drop i s)
part_taken i k s l = by_end (dec_le (i + k) (length s))
  where
    by_end : Dec (i + k ≤ length s) → take (min (i + k) (length s) - i) (drop i s) ≡ take k (drop i s)
    by_end (yes h) = let e : i + k - i ≡ k = omega arith in ap (λ n. take (n - i) (drop i s)) (min-eq_left h) ∙ ap (λ n. take n (drop i s)) e
    by_end (no h) =
        let l : length s ≤ i + k = omega (arith, h) in
        ap (λ n. take (n - i) (drop i s)) (min-eq_right l) ∙ take_all (length s - i) (drop i s) (rw length-drop (omega arith))
        ∙ sym (take_all k (drop i s) (rw length-drop (omega arith)))

pub part_left : (i k : ℕ) (s : List ℕ) → drop (min (i + k) (length s)) s ≡ drop k (drop i s)
part_left i k s = by_end (dec_le (i + k) (length s)) ∙ sym (drop-drop k i s)
  where
    by_end : Dec (i + k ≤ length s) → drop (min (i + k) (length s)) s ≡ drop (i + k) s
    by_end (yes h) = ap (λ n. drop n s) (min-eq_left h)
    by_end (no h) =
        let l : length s ≤ i + k = omega (arith, h) in
        ap (λ n. drop n s) (min-eq_right l) ∙ drop-length s ∙ sym (drop_of_length-le s {i = i + k} l)

-- zeros behind zeros
pub drop_zeros : (n k : ℕ) → drop n (replicate {A = ℕ} k 0) ≡ replicate (k - n) 0
drop_zeros zero k = let e : k - 0 ≡ k = omega arith in ap (λ m. replicate {A = ℕ} m 0) (sym e)
drop_zeros (suc n) zero = let e : 0 - suc n ≡ 0 = omega arith in ap (λ m. replicate {A = ℕ} m 0) (sym e)
drop_zeros (suc n) (suc k) = let e : suc k - suc n ≡ k - n = omega arith in drop_zeros n k ∙ ap (λ m. replicate {A = ℕ} m 0) (sym e)

-- what was taken is taken again
pub take_front : (n : ℕ) (s : List ℕ) → take (length (take n s)) s ≡ take n s
take_front zero s = refl
take_front (suc n) [] = refl
take_front (suc n) (x ∷ s) = ap (λ (t : List ℕ). x ∷ t) (take_front n s)
