-- `digits::decimal` meets its contract: what the digits that are left say of the number so far, they say of the word. Assumes nothing.
use Prim.Native.Nat.{◌^◌, ◌<◌}
use mathlib.Core.Path.{◌≡◌}
use lib.ListN.{drop}
use Rattle.digits.specs.Text.{number_of}
use Rattle.digits.proofs.Laws.{number_from}
use Rattle.digits.proofs.decimal.Given as goal

abbrev pub invariant-loop-b : goal.invariant-loop-b
invariant-loop-b l = (l.value < 2 ^ 64) × (number_of l.s ≡ number_from l.value (drop l.b-index l.s))
