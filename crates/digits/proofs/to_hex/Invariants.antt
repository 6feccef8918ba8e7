-- `digits::to_hex` meets its contract: the two digits of each of i bytes are put. Assumes nothing.
use Prim.Native.Nat.{◌*◌}
use mathlib.Core.Path.{◌≡◌}
use lib.Seq.{paste}
use Rattle.digits.specs.Text.{spelling}
use Rattle.digits.proofs.to_hex.Given as goal

abbrev pub invariant-loop-i : goal.invariant-loop-i
invariant-loop-i l = l.out ≡ paste l.initial.out 0 (spelling l.s) (2 * l.i)
