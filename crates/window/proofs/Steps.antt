-- A step, by the tests of the code. Assumes nothing.
use Prim.Native.Nat.{ℕ}
use mathlib.Core.Path.{◌≡◌, refl, ap, ◌∙◌}
use mathlib.Core.Bool.{Bool, false, cond}
use mathlib.Core.List.{List}
use borrow.Author.Tests.{eq-eqb, ne_eqb}
use lib.ListN.{length}
use Rattle.answer.specs.Answers.{cut_short}
use Rattle.answer.proofs.Reasons.{one_answer}
use Rattle.framing.proofs.Told.{one_kind}
use Rattle.window.specs.declared.Step.{Step as CodeStep}
use Rattle.window.specs.declared.Step.TheVariants as code
use Rattle.framing.specs.Front.{Front, Stop, front_of}
use Rattle.window.specs.Step.{More, End, on_front, step_of, step_told}

pub nothing_held : (last : Bool) (held : List ℕ) → length held ≡ 0 → cond last (End 0) More ≡ step_of last held
unfolding step_of
nothing_held last held e = simp (eq-eqb _ _ e)

pub some_held : (last : Bool) (held : List ℕ) (f : Front) → (length held ≡ 0 → ⊥) → f ≡ front_of held → on_front last f ≡ step_of last held
unfolding step_of
some_held last held f h e = ap (on_front last) e ∙ simp (ne_eqb _ _ h)

-- what a reason to stop comes to
pub stops_anyhow : (last : Bool) (r : ℕ) → last ≡ false → (r ≡ cut_short → ⊥) → End r ≡ on_front last (Stop r)
stops_anyhow last r e f = rw e (simp (ne_eqb _ _ f))

-- what is told of a step fixes what code has
pub one_step : (a b : CodeStep) → step_told a ≡ step_told b → a ≡ b
one_step (code.Frame a) (code.Frame b) e =
    let k : a.kind ≡ b.kind = one_kind a.kind b.kind cc in
    let t : a.taken ≡ b.taken = cc in
    (λ i. code.Frame (record { kind = k i; taken = t i }))
one_step (code.Frame a) code.More e = cc
one_step (code.Frame a) (code.End b) e = cc
one_step code.More (code.Frame b) e = cc
one_step code.More code.More e = refl
one_step code.More (code.End b) e = cc
one_step (code.End a) (code.Frame b) e = cc
one_step (code.End a) code.More e = cc
one_step (code.End a) (code.End b) e = ap code.End (one_answer a b cc)
