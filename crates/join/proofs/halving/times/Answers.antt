-- `join::halving::times` meets its contract. Assumes nothing.
use Rattle.std.proofs.Common.{◌≡◌, ◌+◌, sym, refl, ap, ◌∙◌, subst, add-zero, zero-add, arith}
use Rattle.field.specs.Element.{value, element}
use Rattle.field.proofs.Element.{element_value}
use Rattle.feeding.specs.Times.{times, dots_of}
use Rattle.join.specs.Halving.{halved}
use Rattle.join.proofs.Times.{never}
use Rattle.feeding.proofs.Dots.{dots_none, dots_bound}
use Rattle.join.proofs.Turn.{Kept, turn}
use Rattle.join.proofs.halving.times.Goals as goal
use Rattle.join.proofs.halving.times.Goals.{After-halve-state}

pub loop-state-init : goal.loop-state-init
loop-state-init c =
    (refl, zero-add (dots_of c.args.n), record { lo = omega arith; hi = omega arith })

kept : (c : After-halve-state) → Kept c.loop-state.state c.halve-state.result
kept c =
    let l = c.loop-state in
    subst (Kept l.state) (sym (c.halve-state.ensures ∙ ap halved c.choose.ensures))
    (turn l.state c.loop-state-test.true l.invariant.2 (omega (arith, l.invariant.1, dots_bound c.args.n c.ranges.n.fits)))

pub loop-state-smaller : goal.loop-state-smaller
loop-state-smaller c = (kept (goal.at.loop-state-smaller c).After-halve-state).less

pub loop-state-preserved : goal.loop-state-preserved
loop-state-preserved c =
    let l = c.loop-state in
    ((kept (goal.at.loop-state-preserved c).After-halve-state).same ∙ l.invariant.0, (kept (goal.at.loop-state-preserved c).After-halve-state).counted ∙ l.invariant.1, (kept (goal.at.loop-state-preserved c).After-halve-state).sized)

pub returns : goal.returns
returns c =
    let l = c.loop-state in
    let s = l.state in
    let none : s.left ≡ 0 = omega arith in
    let product = sym (element_value s.product l.invariant.2) ∙ ap element (sym (ap (λ n. times (value s.square) n (value s.product)) none ∙ never (value s.square) (value s.product)) ∙ l.invariant.0) in
    let dots = sym (ap (λ n. s.dots + n) (ap dots_of none ∙ dots_none) ∙ add-zero s.dots) ∙ l.invariant.1 in
    c.counting.ensures ∙ (λ i. record { product = product i; dots = dots i })
