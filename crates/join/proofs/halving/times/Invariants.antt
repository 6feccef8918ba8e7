-- `join::halving::times` meets its contract. Assumes nothing.
use Rattle.std.proofs.Common.{◌≡◌, ◌+◌}
use Rattle.field.proofs.Element.{Sized}
use Rattle.feeding.specs.Times.{dots_of}
use Rattle.join.proofs.Turn.{stands}
use Rattle.join.proofs.halving.times.Given as goal

abbrev pub invariant-loop-state : goal.invariant-loop-state
invariant-loop-state l =
    (stands l.state ≡ stands l.initial.state) × (l.state.dots + dots_of l.state.left ≡ dots_of l.n) × Sized l.state.product

abbrev pub decreases-loop-state : goal.decreases-loop-state
decreases-loop-state l = l.state.left
