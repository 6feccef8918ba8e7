-- `digits::from_hex` meets its contract: i bytes of what s spells are put. Assumes nothing.
use mathlib.Core.Path.{◌≡◌}
use lib.Seq.{paste}
use Rattle.digits.specs.Text.{spelled}
use Rattle.digits.proofs.from_hex.Given as goal

abbrev pub invariant-loop-i : goal.invariant-loop-i
invariant-loop-i l = l.out ≡ paste l.initial.out 0 (spelled l.s) l.i
