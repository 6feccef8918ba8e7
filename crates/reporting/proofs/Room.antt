-- The test of the room, and the promise of a line with the room and without. Assumes nothing.
use Prim.Native.Nat.{ℕ, ◌+◌, ◌-◌, ◌/◌, ◌≤◌}
use mathlib.Core.Path.{◌≡◌, refl, sym, ap, ◌∙◌}
use mathlib.Core.List.{List, ◌++◌}
use mathlib.Core.Bool.{Bool, true, false, cond}
use native.Mathlib.Nat.{zero-add}
use native.Mathlib.Omega.{arith}
use borrow.Author.Tests.{le-leb, lt-leb, leb-true, leb-false}
use lib.Dec.{leb}
use lib.ListN.{length, take, drop, length-append}
use lib.Seq.{length-take-le}
use Rattle.octets.specs.Places.{Wrote}
use Rattle.reporting.specs.Lines.{room_for, Line, AtFront}

-- by quarters
pub by_quarters : (room n : ℕ) → 256 ≤ room → leb n ((room - 256) / 4) ≡ leb (room_for n) room
by_quarters room n h = two (leb n ((room - 256) / 4)) refl
  where
    two : (b : Bool) → leb n ((room - 256) / 4) ≡ b → b ≡ leb (room_for n) room
    two true e = sym (le-leb (room_for n) room (let l = leb-true n ((room - 256) / 4) e in omega arith))
    two false e = sym (lt-leb (room_for n) room (let l = leb-false n ((room - 256) / 4) e in omega arith))

-- a call that makes a line, with the room and without
pub line_made : {n r : ℕ} {text out out' : List ℕ} → leb (room_for n) (length out) ≡ true → Wrote out 0 text out' r → Line n text out out' r
line_made {n} {r} {text} {out} {out'} e w =
    let z : 0 + length text ≡ length text = zero-add (length text) in
    record {
      out_is = w.out_is ∙ ap (λ (k : ℕ). text ++ drop k out) z ∙ sym (ap (λ (b : Bool). cond b (text ++ drop (length text) out) out) e);
      length_is = w.next_is ∙ z ∙ sym (ap (λ (b : Bool). cond b (length text) 0) e);
    }

pub no_room_lem : (n : ℕ) (text out : List ℕ) → leb (room_for n) (length out) ≡ false → Line n text out out 0
no_room_lem n text out e =
    record { out_is = sym (ap (λ (b : Bool). cond b (text ++ drop (length text) out) out) e); length_is = sym (ap (λ (b : Bool). cond b (length text) 0) e) }

-- a line lies within the buffer
line_within : {n r : ℕ} {text out out' : List ℕ} → Line n text out out' r → r ≤ length out'
line_within {n} {r} {text} {out} {out'} l = by_test (leb (room_for n) (length out)) refl
  where
    by_test : (b : Bool) → leb (room_for n) (length out) ≡ b → r ≤ length out'
    by_test true e =
        let o : length out' ≡ length text + length (drop (length text) out) =
        ap length (l.out_is ∙ ap (λ (b : Bool). cond b (text ++ drop (length text) out) out) e) ∙ length-append text (drop (length text) out) in
        let q : r ≡ length text = l.length_is ∙ ap (λ (b : Bool). cond b (length text) 0) e in
        omega arith
    by_test false e = let q : r ≡ 0 = l.length_is ∙ ap (λ (b : Bool). cond b (length text) 0) e in omega arith

-- what stands at the front lies within the buffer, and that is all it takes
pub at_front : (n : ℕ) (out : List ℕ) → n ≤ length out → AtFront n out
at_front n out h = (h, sym (length-take-le n out h))

pub front_within : (n : ℕ) (out : List ℕ) → AtFront n out → (n ≤ length out) × (length (take n out) ≡ n)
front_within n out a = (a.0, sym a.1)

pub line_at_front : {n r : ℕ} {text out out' : List ℕ} → Line n text out out' r → AtFront r out'
line_at_front l = at_front _ _ (line_within l)

-- the promise of a line leaves no choice
pub line_fixed : (n : ℕ) (text out x y : List ℕ) (r q : ℕ) → Line n text out x r → Line n text out y q → (x ≡ y) × (r ≡ q)
line_fixed n text out x y r q l m = (l.out_is ∙ sym m.out_is, l.length_is ∙ sym m.length_is)
