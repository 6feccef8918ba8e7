-- Laws of the words: digits, hex text as a list, decimal text as a number. Assumes nothing.
use Prim.Native.Nat.{ℕ, zero, suc, ◌+◌, ◌-◌, ◌*◌, ◌/◌, ◌%◌, ◌^◌, ◌≤◌, ◌<◌}
use mathlib.Core.Path.{◌≡◌, refl, sym, ap, ◌∙◌}
use mathlib.Core.Bool.{Bool, true, false, cond, ◌&&◌}
use mathlib.Core.List.{List, [], ◌∷◌}
use native.Mathlib.Nat.{not-suc-le-zero, le_of_suc-le-suc, zero-add}
use native.Mathlib.Numerals.{add-one}
use native.Mathlib.Omega.{arith}
use borrow.Author.Tests.{le-leb, lt-ltb, le-ltb, ltb-false}
use lib.Dec.{leb, ltb}
use lib.ListN.{length, get_or, drop, set, drop_of_length-le}
use lib.Seq.{paste, paste-suc, drop-cons}
use Rattle.std.specs.List.{list_all}
use Rattle.std.specs.Simd.{first_chunks}
use Rattle.digits.specs.Text.{digit, digit_of, letter, all_hex, spelled, spelling, is_decimal, all_decimal, followed, longer_by}
use Rattle.std.specs.Prelude.{Option, Some, None, is_some}

pub and_false : (t : Bool) {u : Bool} → u ≡ false → (t && u) ≡ false
and_false true e = e
and_false false e = refl

-- a byte within bounds passes the test of them
pub within : (lo hi b : ℕ) → lo ≤ b → b < hi → (leb lo b && ltb b hi) ≡ true
within lo hi b p q = simp (le-leb lo b p, lt-ltb b hi q)

pub above : (lo hi b : ℕ) → hi ≤ b → (leb lo b && ltb b hi) ≡ false
above lo hi b p = and_false (leb lo b) (le-ltb b hi p)

-- the number that v and the decimal digits of s behind it make
abbrev pub number_from : ℕ → List ℕ → Option ℕ
number_from v s = cond (all_decimal s && ltb (followed v s) (2 ^ 64)) (Some (followed v s)) None

-- it only grows by digits written behind it
grows : (v : ℕ) (s : List ℕ) → v ≤ followed v s
unfolding followed
grows v [] = omega arith
grows v (b ∷ s) =
    let h : v * 10 + (b - 48) ≤ followed (v * 10 + (b - 48)) s = grows (v * 10 + (b - 48)) s in
    omega arith

-- what `longer_by` decides by two tests, x that b is a digit and y that the number fits, is decided for the whole word
goes_on : (x y : Bool) (w v : ℕ) (s : List ℕ) → cond (x && y) (Some w) None ≡ Some v
    → cond ((x && all_decimal s) && ltb (followed w s) (2 ^ 64)) (Some (followed w s)) None ≡ number_from v s
goes_on true true w v s e = let h : w ≡ v = cc in ap (λ n. number_from n s) h
goes_on true false w v s e = let z : ◌≡◌ {A = ℕ} 0 1 = cc in absurd (omega arith)
goes_on false y w v s e = let z : ◌≡◌ {A = ℕ} 0 1 = cc in absurd (omega arith)

stops : (x : Bool) (w : ℕ) (s : List ℕ) → cond (x && ltb w (2 ^ 64)) (Some w) None ≡ None
    → cond ((x && all_decimal s) && ltb (followed w s) (2 ^ 64)) (Some (followed w s)) None ≡ None
stops false w s e = refl
stops true w s e = stopped (ltb w (2 ^ 64)) refl e
  where
    stopped : (y : Bool) → ltb w (2 ^ 64) ≡ y → cond y (Some w) None ≡ None → cond (all_decimal s && ltb (followed w s) (2 ^ 64)) (Some (followed w s)) None ≡ None
    stopped true p q = let z : ◌≡◌ {A = ℕ} 0 1 = cc in absurd (omega arith)
    stopped false p q =
        let h : 2 ^ 64 ≤ w = ltb-false w (2 ^ 64) p in
        ap (λ t. cond t (Some (followed w s)) None) (and_false (all_decimal s) (le-ltb (followed w s) (2 ^ 64) (omega (arith, grows w s))))

-- a turn of the loop over the digits
pub digit_taken : (v n : ℕ) (s : List ℕ) (i : ℕ) → i < length s → longer_by v (get_or s i 0) ≡ Some n → number_from v (drop i s) ≡ number_from n (drop (i + 1) s)
unfolding all_decimal followed
digit_taken v n s i h e =
    ap (number_from v) (drop-cons s i 0 h) ∙ goes_on (is_decimal (get_or s i 0)) (ltb (v * 10 + (get_or s i 0 - 48)) (2 ^ 64)) (v * 10 + (get_or s i 0 - 48)) n (drop (suc i) s) e ∙ ap (λ k. number_from n (drop k s)) (sym (add-one i))

pub digit_refused : (v : ℕ) (s : List ℕ) (i : ℕ) → i < length s → longer_by v (get_or s i 0) ≡ None → number_from v (drop i s) ≡ None
unfolding all_decimal followed
digit_refused v s i h e = ap (number_from v) (drop-cons s i 0 h) ∙ stops (is_decimal (get_or s i 0)) (v * 10 + (get_or s i 0 - 48)) (drop (suc i) s) e

pub digits_over : (v : ℕ) (s : List ℕ) (i : ℕ) → length s ≤ i → v < 2 ^ 64 → number_from v (drop i s) ≡ Some v
unfolding all_decimal followed
digits_over v s i h p = ap (number_from v) (drop_of_length-le s h) ∙ ap (λ t. cond t (Some v) None) (lt-ltb v (2 ^ 64) p)

-- whether a byte has a value
pub has_value : (b : ℕ) → is_some (digit_of b) ≡ ltb (digit b) 16
has_value b = by_test (ltb (digit b) 16)
  where
    by_test : (t : Bool) → is_some (cond t (Some (digit b)) None) ≡ t
    by_test true = refl
    by_test false = refl

pub every_digit : (s : List ℕ) → list_all (λ b. ltb (digit b) 16) s ≡ all_hex s
unfolding all_hex
every_digit [] = refl
every_digit (b ∷ s) = ap (λ t. ltb (digit b) 16 && t) (every_digit s)

-- a store behind what is already put at the front of a buffer
pub put_turn : (d s out : List ℕ) (j v : ℕ) → out ≡ paste d 0 s j → j < length d → j < length s → v ≡ get_or s j 0 → set out j v ≡ paste d 0 s (j + 1)
put_turn d s out j v e hd hs ev =
    ap (λ l. set l j v) e
    ∙ ap (set (paste d 0 s j) j) ev
    ∙ ap (λ k. set (paste d 0 s j) k (get_or s j 0)) (sym (zero-add j))
    ∙ paste-suc d 0 s j 0 (rw zero-add hd) hs
    ∙ ap (paste d 0 s) (sym (add-one j))

pub length-spelled : (s : List ℕ) → length (spelled s) ≡ length s / 2
unfolding spelled
length-spelled [] = refl
length-spelled (h ∷ []) = refl
length-spelled (h ∷ l ∷ s) = let e = length-spelled s in omega arith

-- what the byte is that a pair of digits spells
abbrev pub pair_spells : List ℕ → ℕ
pair_spells p = digit (get_or p 0 0) % 16 * 16 + digit (get_or p 1 0) % 16

pub spelled_at : (k : ℕ) (s : List ℕ) (i : ℕ) → i < k → k ≤ length s / 2 → get_or (spelled s) i 0 ≡ pair_spells (get_or (first_chunks 2 k s) i [])
unfolding spelled
spelled_at zero s i p q = absurd (omega arith)
spelled_at (suc k) [] i p q = absurd (omega arith)
spelled_at (suc k) (h ∷ []) i p q = absurd (omega arith)
spelled_at (suc k) (h ∷ l ∷ s) zero p q = refl
spelled_at (suc k) (h ∷ l ∷ s) (suc i) p q = spelled_at k s i (omega arith) (omega arith)

pub length-spelling : (s : List ℕ) → length (spelling s) ≡ 2 * length s
unfolding spelling
length-spelling [] = refl
length-spelling (b ∷ s) = let e = length-spelling s in omega arith

-- both digits of a byte
pub spelling_at : (s : List ℕ) (i : ℕ) → i < length s → (get_or (spelling s) (2 * i) 0 ≡ letter (get_or s i 0 / 16)) × (get_or (spelling s) (2 * i + 1) 0 ≡ letter (get_or s i 0))
unfolding spelling
spelling_at [] i p = absurd (not-suc-le-zero p)
spelling_at (b ∷ s) zero p = (refl, refl)
spelling_at (b ∷ s) (suc i) p =
    let e : 2 * suc i ≡ suc (suc (2 * i)) = omega arith in
    let f : 2 * suc i + 1 ≡ suc (suc (2 * i + 1)) = omega arith in
    rw (f, e) (spelling_at s i (le_of_suc-le-suc p))
