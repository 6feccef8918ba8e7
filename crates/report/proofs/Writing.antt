-- Piece after piece at the front of a buffer: nothing, one piece behind another, and a whole line. Assumes nothing.
use Rattle.std.proofs.Common.{ℕ, ◌+◌, ◌≤◌, ◌≡◌, refl, ap, ◌∙◌, List, [], ◌++◌, length, arith, length-append, subst}
use Rattle.std.specs.Prelude.{true, leb}
use Rattle.reporting.specs.Lines.{room_for, Line}
use Rattle.reporting.proofs.Room.{line_made}
use lib.IntN.{ℤ}
use mir.Syntax.{w32}
use mir.Val.{to_z, of_z, SFits}
use mir.Facts.{to_z-of_z}
use Rattle.octets.specs.Places.{placed}
use Rattle.octets.proofs.Places as places
use Rattle.report.specs.declared.writer.Writer.{Writer}
use Rattle.report.specs.Writing.{Adds}

pub none : (w : Writer) → Adds 0 w [] w
none w = record { same = refl; wrote = places.wrote_none w.out.now w.at; short = omega arith }

pub then : {j k : ℕ} {w w₁ w₂ : Writer} {a b : List ℕ} → w.at ≤ length w.out.now → Adds j w a w₁ → Adds k w₁ b w₂ → Adds (j + k) w (a ++ b) w₂
then {a = a} {b = b} h p q =
    record { same = q.same ∙ p.same; wrote = places.then h p.wrote q.wrote; short = omega (arith, length-append a b, p.short, q.short) }

-- the same text by another name, and in more room
pub adds_as : {n : ℕ} {w w' : Writer} {a b : List ℕ} → a ≡ b → Adds n w a w' → Adds n w b w'
adds_as {n} {w} {w'} e p = subst (λ (t : List ℕ). Adds n w t w') e p

pub within : {j k : ℕ} {w w' : Writer} {a : List ℕ} → j ≤ k → Adds j w a w' → Adds k w a w'
within h p = record { same = p.same; wrote = p.wrote; short = omega (arith, p.short) }

-- a number comes by way of a wider type
pub widened : {n : ℕ} {w w' : Writer} (f : ℕ → List ℕ) {y z : ℕ} → y ≡ z → Adds n w (f y) w' → Adds n w (f z) w'
widened f e p = adds_as (ap f e) p

-- a signed number comes by way of its bits
pub by_bits : {n : ℕ} {w w' : Writer} (f : ℤ → List ℕ) {z : ℤ} → SFits w32 z → Adds n w (f (to_z w32 (of_z w32 z))) w' → Adds n w (f z) w'
by_bits f h p = adds_as (ap f (to_z-of_z h)) p

pub both_by_bits : {n : ℕ} {w w' : Writer} (f : ℤ → ℤ → List ℕ) {y z : ℤ} → SFits w32 y → SFits w32 z → Adds n w (f (to_z w32 (of_z w32 y)) (to_z w32 (of_z w32 z))) w' → Adds n w (f y z) w'
both_by_bits f g h p = adds_as (λ i. f (to_z-of_z g i) (to_z-of_z h i)) p

-- all of a line, where there was room for it
pub whole : {n k : ℕ} {w w' : Writer} {text out out' : List ℕ} → leb (room_for n) (length out) ≡ true → w.out.now ≡ out → w.at ≡ 0 → out' ≡ w'.out.now → Adds k w text w' → Line n text out out' w'.at
whole {text = text} {out = out} {out' = out'} e b z o p = line_made e (record { out_is = o ∙ p.wrote.out_is ∙ (λ i. placed (b i) (z i) text); next_is = p.wrote.next_is ∙ ap (λ (n : ℕ). n + length text) z })
