-- A whole frame at the front of a byte string: what its bytes say, that nothing behind it plays a part, and that without
-- its last byte it is cut. Assumes nothing.
use Prim.Native.Nat.{ℕ, ◌+◌, ◌*◌, ◌≤◌, ◌<◌}
use mathlib.Core.Path.{◌≡◌, refl, sym, ap, ap₂, ◌∙◌}
use mathlib.Core.List.{List, ◌++◌}
use mathlib.Core.Bool.{Bool, true, false, cond}
use native.Mathlib.Omega.{arith}
use borrow.Author.Tests.{ltb-true, ltb-false, eqb-true, not-false}
use lib.Dec.{eqb, ltb}
use lib.ListN.{length, get_or, take, length-append, get_or-append}
use lib.Seq.{length-take-le, get_or-take}
use Rattle.answer.specs.Answers.{done, cut_short}
use Rattle.answer.proofs.First.{Passed, Told, all_passed}
use Rattle.framing.specs.Kinds.{is_known, is_allowed, max_frame_plaintext}
use Rattle.framing.specs.Front.{Whole, Stop, mark, kind_of, sealed_len, taken_of, checks, stop_of, front_of}
use Rattle.framing.proofs.Rows.{allowed_bounds}
use Rattle.framing.proofs.Fronts.{no_mark, no_kind, no_length, no_end, whole}

-- what a whole frame's bytes say
pub record IsWhole (s : List ℕ) (kind taken : ℕ) : Type 0 where
  pub marked : get_or s 0 0 ≡ mark
  pub kind_is : kind_of s ≡ kind
  pub known : is_known kind ≡ true
  pub taken_is : taken_of s ≡ taken
  pub allowed : is_allowed kind (sealed_len s) ≡ true
  pub inside : taken ≤ length s

-- the answer of a test of numbers decides between two fronts
picked : (n k t kind taken : ℕ) → cond (eqb n done) (Whole k t) (Stop n) ≡ Whole kind taken → (n ≡ 0) × (k ≡ kind) × (t ≡ taken)
picked n k t kind taken e = by (eqb n done) refl e
  where
    by : (b : Bool) → eqb n done ≡ b → cond b (Whole k t) (Stop n) ≡ Whole kind taken → (n ≡ 0) × (k ≡ kind) × (t ≡ taken)
    by true q p = (eqb-true n 0 q, cc, cc)
    by false q p = absurd (let z : ◌≡◌ {A = ℕ} 0 1 = cc in omega arith)

-- where a frame stands there is no reason to stop
pub no_reason : (s : List ℕ) (kind taken : ℕ) → front_of s ≡ Whole kind taken → stop_of s ≡ 0
unfolding front_of
no_reason s kind taken e = (picked (stop_of s) (kind_of s) (taken_of s) kind taken e).0

-- they are what the tests ask
pub is_whole : (s : List ℕ) (kind taken : ℕ) → front_of s ≡ Whole kind taken → IsWhole s kind taken
unfolding front_of checks Passed Told
is_whole s kind taken e =
    let p = picked (stop_of s) (kind_of s) (taken_of s) kind taken e in
    let a = all_passed (checks s) (omega arith, (omega arith, (omega arith, (omega arith, (omega arith, (omega arith, (omega arith, tt))))))) p.0 in
    let k = p.1 in
    let t = p.2 in
    record {
      marked = eqb-true (get_or s 0 0) mark (not-false (eqb (get_or s 0 0) mark) a.1.0);
      kind_is = k;
      known = rw k at (not-false (is_known (kind_of s)) a.1.1.1.0);
      taken_is = t;
      allowed = rw k at (not-false (is_allowed (kind_of s) (sealed_len s)) a.1.1.1.1.1.0);
      inside = omega (arith, ltb-false (length s) (taken_of s) a.1.1.1.1.1.1.0);
    }

-- and where they say so, it stands there
pub whole_is : (s : List ℕ) (kind taken : ℕ) → IsWhole s kind taken → front_of s ≡ Whole kind taken
whole_is s kind taken w =
    let t = w.taken_is in
    let i = w.inside in
    let l : 4 ≤ length s = omega arith in
    sym (whole s (omega arith) w.marked (omega arith) (ap is_known w.kind_is ∙ w.known) l (ap (λ k. is_allowed k (sealed_len s)) w.kind_is ∙ w.allowed) (omega arith))
    ∙ ap₂ Whole w.kind_is t

-- a whole frame has 32 bytes or more
pub whole_bounds : (s : List ℕ) (kind taken : ℕ) → IsWhole s kind taken → (32 ≤ taken) × (taken ≤ 32 + max_frame_plaintext)
whole_bounds s kind taken w =
    let a = allowed_bounds kind (sealed_len s) w.allowed in
    let t = w.taken_is in
    (omega arith, omega arith)

-- only the first four bytes and the length play a part
pub same_front : (s u : List ℕ) (kind taken : ℕ) → ((i : ℕ) → i < 4 → get_or u i 0 ≡ get_or s i 0) → taken ≤ length u → IsWhole s kind taken → IsWhole u kind taken
same_front s u kind taken at h w =
    let len : sealed_len u ≡ sealed_len s = ap₂ (λ a b. a + b * 256) (at 2 (omega arith)) (at 3 (omega arith)) in
    record {
      marked = at 0 (omega arith) ∙ w.marked;
      kind_is = at 1 (omega arith) ∙ w.kind_is;
      known = w.known;
      taken_is = ap (λ n. 16 + n) len ∙ w.taken_is;
      allowed = ap (is_allowed kind) len ∙ w.allowed;
      inside = h;
    }

-- what stands behind a whole frame plays no part
pub whole_before : (s rest : List ℕ) (kind taken : ℕ) → IsWhole s kind taken → IsWhole (s ++ rest) kind taken
whole_before s rest kind taken w =
    let t = whole_bounds s kind taken w in
    let i = w.inside in
    same_front s (s ++ rest) kind taken (λ i h. get_or-append s rest 0 i (omega arith)) (rw length-append (omega arith)) w

-- and by itself it is whole too
pub whole_alone : (s : List ℕ) (kind taken : ℕ) → IsWhole s kind taken → IsWhole (take taken s) kind taken
whole_alone s kind taken w =
    let t = whole_bounds s kind taken w in
    same_front s (take taken s) kind taken (λ i h. get_or-take taken s i 0 (omega arith)) (rw (length-take-le taken s w.inside) (omega arith)) w

-- the same of what stands at the front: for any whole frame, whoever made it, with its own bytes alone or with anything behind them
pub front_before : (s rest : List ℕ) (kind taken : ℕ) → front_of s ≡ Whole kind taken → front_of (s ++ rest) ≡ Whole kind taken
front_before s rest kind taken e = whole_is (s ++ rest) kind taken (whole_before s rest kind taken (is_whole s kind taken e))

pub front_alone : (s : List ℕ) (kind taken : ℕ) → front_of s ≡ Whole kind taken → front_of (take taken s) ≡ Whole kind taken
front_alone s kind taken e = whole_is (take taken s) kind taken (whole_alone s kind taken (is_whole s kind taken e))

-- a front of it that is shorter is cut, at the check that needs the first missing byte
module _ (s u : List ℕ) (kind taken : ℕ) (w : IsWhole s kind taken) (front : (i : ℕ) → i < length u → get_or u i 0 ≡ get_or s i 0) (short : length u < taken) where
  kind_at : 2 ≤ length u → kind_of u ≡ kind
  kind_at h = front 1 (omega arith) ∙ w.kind_is

  len_at : 4 ≤ length u → sealed_len u ≡ sealed_len s
  len_at h = ap₂ (λ a b. a + b * 256) (front 2 (omega arith)) (front 3 (omega arith))

  cut_at : (a b d : Bool) → ltb (length u) 1 ≡ a → ltb (length u) 2 ≡ b → ltb (length u) 4 ≡ d → Stop cut_short ≡ front_of u
  cut_at true b d ea eb ed = no_mark u (ltb-true (length u) 1 ea)
  cut_at false true d ea eb ed =
      let h1 = ltb-false (length u) 1 ea in
      no_kind u h1 (front 0 h1 ∙ w.marked) (ltb-true (length u) 2 eb)
  cut_at false false true ea eb ed =
      let h2 = ltb-false (length u) 2 eb in
      no_length u (omega arith) (front 0 (omega arith) ∙ w.marked) h2 (ap is_known (kind_at h2) ∙ w.known) (ltb-true (length u) 4 ed)
  cut_at false false false ea eb ed =
      let h4 = ltb-false (length u) 4 ed in
      let t = w.taken_is in
      no_end u (omega arith) (front 0 (omega arith) ∙ w.marked) (omega arith) (ap is_known (kind_at (omega arith)) ∙ w.known) h4
      (ap₂ is_allowed (kind_at (omega arith)) (len_at h4) ∙ w.allowed) (omega (arith, len_at h4))

  pub cut : front_of u ≡ Stop cut_short
  cut = sym (cut_at (ltb (length u) 1) (ltb (length u) 2) (ltb (length u) 4) refl refl refl)

-- so is every proper prefix of a whole frame
pub cut_frame : (f : List ℕ) (kind n : ℕ) → IsWhole f kind (length f) → n < length f → front_of (take n f) ≡ Stop cut_short
cut_frame f kind n w h =
    let long : length (take n f) ≡ n = length-take-le n f (omega arith) in
    cut f (take n f) kind (length f) w (λ i l. get_or-take n f i 0 (omega arith)) (omega arith)
