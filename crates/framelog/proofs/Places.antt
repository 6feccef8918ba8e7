-- What a step finds in the window: a frame that lies in what is held, or room for more. Assumes nothing.
use Prim.Native.Nat.{ℕ, zero, suc, ◌-◌, ◌≤◌, ◌<◌}
use mathlib.Core.Path.{◌≡◌, refl, sym, ap, ap₂, ◌∙◌}
use mathlib.Core.Bool.{Bool, true, false}
use mathlib.Core.List.{List}
use native.Mathlib.Omega.{arith}
use borrow.Author.Tests.{eqb-false}
use lib.Dec.{eqb, leb→le}
use lib.ListN.{length, take, drop, length-drop}
use lib.Seq.{length-take-le}
use Rattle.framing.specs.Kinds.{table, max_frame_plaintext, longest_frame}
use Rattle.framing.specs.Front.{Whole, taken_of, front_of}
use Rattle.framing.proofs.Whole.{IsWhole, whole_is, whole_bounds}
use Rattle.window.specs.Step.{Frame, More, step_of}
use Rattle.window.proofs.InPieces.{more_has_room, last_decides, reported_whole}
use Rattle.framelog.specs.declared.place.Place.{Place}
use Rattle.framelog.specs.Place.{budget}

pos_of : (n : ℕ) → (n ≡ 0 → ⊥) → 0 < n
pos_of zero h = absurd (h refl)
pos_of (suc n) h = omega arith

-- the last bytes ask for no more, so there is more to read where more is asked for
pub some_left : (left : ℕ) (held : List ℕ) → More ≡ step_of (eqb left 0) held → 0 < left
some_left left held e = by_test (eqb left 0) refl
  where
    by_test : (b : Bool) → eqb left 0 ≡ b → 0 < left
    by_test true z = absurd (last_decides held (ap (λ (b : Bool). step_of b held) (sym z) ∙ sym e))
    by_test false z = pos_of left (eqb-false left 0 z)

-- the window holds the longest frame
pub window_holds : longest_frame ≤ 4096
unfolding max_frame_plaintext table
window_holds = leb→le longest_frame 4096 tt

-- from..to lies in the window
module _ (from to : ℕ) (window : List ℕ) (within : to ≤ length window) (last : Bool) where
  length_held : length (take (to - from) (drop from window)) ≡ to - from
  length_held = length-take-le _ _ (rw length-drop (omega (arith, within)))

  -- what is held where more is asked for is less than the longest frame, and so than a window that holds that
  pub has_room_lem : longest_frame ≤ length window → More ≡ step_of last (take (to - from) (drop from window)) → to - from < length window
  has_room_lem longest e =
      let short = more_has_room last (take (to - from) (drop from window)) (sym e) in
      omega (arith, length_held, longest)

  -- a frame that is reported stands whole in what is held, and has 32 bytes at least
  pub frame_held : (kind taken : ℕ) → Frame kind taken ≡ step_of last (take (to - from) (drop from window))
      → IsWhole (take (to - from) (drop from window)) kind taken × (32 ≤ taken) × (taken ≤ to - from)
  frame_held kind taken e =
      let w = reported_whole last (take (to - from) (drop from window)) kind taken e in
      let b = whole_bounds _ _ _ w in
      let i = w.inside in
      (w, b.0, omega (arith, length_held))

-- a place lies in the program's window, which holds the longest frame
module _ (p : Place) (window : List ℕ) (size : length window ≡ 4096) where
  pub in_window : p.to ≤ length window
  in_window = omega (arith, p.within, size)

  pub holds_longest : longest_frame ≤ length window
  holds_longest = omega (arith, window_holds, size)

-- a frame that stands whole is what stands at the front, by the kind that is told of it
pub stands : (s : List ℕ) (kind taken told : ℕ) → told ≡ kind → IsWhole s kind taken → front_of s ≡ Whole told (taken_of s)
stands s kind taken told e w = whole_is s kind taken w ∙ ap₂ Whole (sym e) (sym w.taken_is)

-- a byte that is left counts twice and one that is held once
pub budgets : (p : Place) → p.from ≡ 1 → p.to ≡ 4 → p.left ≡ 5 → budget p ≡ 13
budgets p f t l = omega arith
