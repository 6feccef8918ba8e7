-- What the bytes at hand say of what stands at the front of a log, whatever follows them. Assumes nothing.
use Prim.Native.Nat.{ℕ, ◌+◌, ◌*◌, ◌≤◌, ◌<◌}
use mathlib.Core.Path.{◌≡◌, refl, sym, ap, ◌∙◌}
use mathlib.Core.Bool.{Bool, true, false}
use mathlib.Core.List.{List, ◌++◌}
use native.Mathlib.Omega.{arith}
use borrow.Author.Tests.{ltb-true, ltb-false, eqb-true, eqb-false}
use lib.Dec.{ltb, eqb}
use lib.ListN.{length, get_or, length-append, get_or-append}
use Rattle.answer.specs.Answers.{cut_short, not_a_frame, unknown_kind, length_for_kind}
use Rattle.framing.specs.Kinds.{is_known, is_allowed, longest_frame}
use Rattle.framing.specs.Front.{Stop, mark, kind_of, sealed_len, taken_of, front_of}
use Rattle.framing.proofs.Fronts.{no_mark, wrong_mark, no_kind, wrong_kind, no_length, wrong_length, no_end, whole}
use Rattle.framing.proofs.Rows.{allowed_bounds}
use Rattle.framing.proofs.Whole.{IsWhole, is_whole}

-- the bytes at hand are the front of a frame that goes on, or no frame can stand here whatever follows, or a frame stands here
pub data View (s : List ℕ) : Type 0 where
  cut : front_of s ≡ Stop cut_short → length s < longest_frame → View s
  wrong : (r : ℕ) → (r ≡ cut_short → ⊥) → ((t : List ℕ) → front_of (s ++ t) ≡ Stop r) → View s
  frame : (kind taken : ℕ) → IsWhole s kind taken → View s

-- a byte at hand, and how many there are, when more follow
module _ (s t : List ℕ) where
  byte : (i : ℕ) → i < length s → get_or (s ++ t) i 0 ≡ get_or s i 0
  byte i h = get_or-append s t 0 i h

  longer : (i : ℕ) → i ≤ length s → i ≤ length (s ++ t)
  longer i h = rw length-append (omega arith)

-- the tests one by one, each by its answer
module _ (s : List ℕ) where
  by_end : (b : Bool) → ltb (length s) (taken_of s) ≡ b → 1 ≤ length s → get_or s 0 0 ≡ mark → 2 ≤ length s → is_known (kind_of s) ≡ true → 4 ≤ length s → is_allowed (kind_of s) (sealed_len s) ≡ true → View s
  by_end true e h1 m h2 k h4 l =
      let short = ltb-true (length s) (taken_of s) e in
      let fits = allowed_bounds (kind_of s) (sealed_len s) l in
      cut (sym (no_end s h1 m h2 k h4 l short)) (omega arith)
  by_end false e h1 m h2 k h4 l = frame (kind_of s) (taken_of s) (is_whole s (kind_of s) (taken_of s) (sym (whole s h1 m h2 k h4 l (ltb-false (length s) (taken_of s) e))))

  by_length : (b : Bool) → is_allowed (kind_of s) (sealed_len s) ≡ b → 1 ≤ length s → get_or s 0 0 ≡ mark → 2 ≤ length s → is_known (kind_of s) ≡ true → 4 ≤ length s → View s
  by_length true e h1 m h2 k h4 = by_end (ltb (length s) (taken_of s)) refl h1 m h2 k h4 e
  by_length false e h1 m h2 k h4 =
      wrong length_for_kind (λ z. absurd (omega arith)) (λ t.
      let b : (i : ℕ) → i < 4 → get_or (s ++ t) i 0 ≡ get_or s i 0 = λ i h. byte s t i (omega arith) in
      sym (wrong_length (s ++ t) (longer s t 1 h1) (b 0 (omega arith) ∙ m) (longer s t 2 h2) (ap is_known (b 1 (omega arith)) ∙ k) (longer s t 4 h4)
      ((λ i. is_allowed (b 1 (omega arith) i) (b 2 (omega arith) i + b 3 (omega arith) i * 256)) ∙ e)))

  by_kind_end : (b : Bool) → ltb (length s) 4 ≡ b → 1 ≤ length s → get_or s 0 0 ≡ mark → 2 ≤ length s → is_known (kind_of s) ≡ true → View s
  by_kind_end true e h1 m h2 k = let short = ltb-true (length s) 4 e in cut (sym (no_length s h1 m h2 k short)) (omega arith)
  by_kind_end false e h1 m h2 k = by_length (is_allowed (kind_of s) (sealed_len s)) refl h1 m h2 k (ltb-false (length s) 4 e)

  by_kind : (b : Bool) → is_known (kind_of s) ≡ b → 1 ≤ length s → get_or s 0 0 ≡ mark → 2 ≤ length s → View s
  by_kind true e h1 m h2 = by_kind_end (ltb (length s) 4) refl h1 m h2 e
  by_kind false e h1 m h2 =
      wrong unknown_kind (λ z. absurd (omega arith)) (λ t.
      sym (wrong_kind (s ++ t) (longer s t 1 h1) (byte s t 0 (omega arith) ∙ m) (longer s t 2 h2) (ap is_known (byte s t 1 (omega arith)) ∙ e)))

  by_mark_end : (b : Bool) → ltb (length s) 2 ≡ b → 1 ≤ length s → get_or s 0 0 ≡ mark → View s
  by_mark_end true e h1 m = let short = ltb-true (length s) 2 e in cut (sym (no_kind s h1 m short)) (omega arith)
  by_mark_end false e h1 m = by_kind (is_known (kind_of s)) refl h1 m (ltb-false (length s) 2 e)

  by_mark : (b : Bool) → eqb (get_or s 0 0) mark ≡ b → 1 ≤ length s → View s
  by_mark true e h1 = by_mark_end (ltb (length s) 2) refl h1 (eqb-true (get_or s 0 0) mark e)
  by_mark false e h1 =
      wrong not_a_frame (λ z. absurd (omega arith)) (λ t.
      sym (wrong_mark (s ++ t) (longer s t 1 h1) (λ q. eqb-false (get_or s 0 0) mark e (sym (byte s t 0 (omega arith)) ∙ q))))

  by_start : (b : Bool) → ltb (length s) 1 ≡ b → View s
  by_start true e = let short = ltb-true (length s) 1 e in cut (sym (no_mark s short)) (omega arith)
  by_start false e = by_mark (eqb (get_or s 0 0) mark) refl (ltb-false (length s) 1 e)

pub view : (s : List ℕ) → View s
view s = by_start s (ltb (length s) 1) refl
