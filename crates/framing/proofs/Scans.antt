-- A scan, frame by frame. Assumes nothing.
use Prim.Native.Nat.{ℕ, zero, suc, ◌-◌, ◌≤◌, ◌<◌}
use mathlib.Core.Path.{◌≡◌, refl, sym, ap, ◌∙◌}
use mathlib.Core.List.{List}
use mathlib.Core.Bool.{Bool, true, false, cond}
use native.Mathlib.Omega.{arith}
use borrow.Author.Tests.{eq-eqb, ne_eqb}
use lib.Dec.{eqb}
use lib.ListN.{length, drop, length-drop}
use Rattle.framing.specs.Front.{Front, Whole, Stop, front_of}
use Rattle.framing.specs.Scan.{none, ahead, on_front, scan_from, scan_of}
use Rattle.framing.proofs.Whole.{is_whole, whole_bounds}

-- at the end there is nothing to find, however many frames may be looked at
ended : (n : ℕ) (s : List ℕ) → length s ≡ 0 → scan_from n s ≡ none 0
unfolding scan_from
ended zero s h = refl
ended (suc n) s h = simp (eq-eqb _ _ h)

same_step : (n m : ℕ) (s : List ℕ) → ((u : List ℕ) → length u ≤ n → length u ≤ m → scan_from n u ≡ scan_from m u) → length s ≤ suc n → length s ≤ suc m
    → (b : Bool) (f : Front) → front_of s ≡ f → cond b (none 0) (on_front (λ t. scan_from n (drop t s)) f) ≡ cond b (none 0) (on_front (λ t. scan_from m (drop t s)) f)
same_step n m s ih hn hm true f e = refl
same_step n m s ih hn hm false (Stop r) e = refl
same_step n m s ih hn hm false (Whole k t) e =
    let b = whole_bounds s k t (is_whole s k t e) in
    ap (ahead t 1) (ih (drop t s) (rw length-drop (omega arith)) (rw length-drop (omega arith)))

-- as many frames as bytes are enough
enough : (n m : ℕ) (s : List ℕ) → length s ≤ n → length s ≤ m → scan_from n s ≡ scan_from m s
unfolding scan_from
enough zero m s h k = sym (ended m s (omega arith))
enough (suc n) zero s h k = ended (suc n) s (omega arith)
enough (suc n) (suc m) s h k = same_step n m s (enough n m) h k (eqb (length s) 0) (front_of s) refl

pub scan_end : (s : List ℕ) → length s ≡ 0 → scan_of s ≡ none 0
unfolding scan_of
scan_end s h = ended (length s) s h

module _ (s : List ℕ) (h : 0 < length s) where
  first_frame : scan_of s ≡ on_front (λ t. scan_from (length s - 1) (drop t s)) (front_of s)
  unfolding scan_of scan_from
  first_frame =
      let e : length s ≡ suc (length s - 1) = omega arith in
      ap (λ n. scan_from n s) e ∙ simp (ne_eqb (length s) 0 (λ p. omega arith))

  pub scan_stop : (r : ℕ) → front_of s ≡ Stop r → scan_of s ≡ none r
  scan_stop r e = first_frame ∙ ap (on_front (λ t. scan_from (length s - 1) (drop t s))) e

pub scan_whole : (s : List ℕ) (kind taken : ℕ) → front_of s ≡ Whole kind taken → scan_of s ≡ ahead taken 1 (scan_of (drop taken s))
unfolding scan_of
scan_whole s kind taken e =
    let w = is_whole s kind taken e in
    let b = whole_bounds s kind taken w in
    let i = w.inside in
    first_frame s (omega arith) ∙ ap (on_front (λ t. scan_from (length s - 1) (drop t s))) e
    ∙ ap (ahead taken 1) (enough (length s - 1) (length (drop taken s)) (drop taken s) (rw length-drop (omega arith)) (omega arith))
