-- `aes::expansion::expand` meets its contract. Assumes nothing.
use mathlib.Core.Path.{◌≡◌}
use Prim.Native.Nat.{◌-◌, ◌*◌}
use lib.ListN.{length, take}
use Rattle.fips197.specs.KeyExpansion.{expand}
use Rattle.aes.proofs.expansion.expand.Given as goal

abbrev pub invariant-loop-i : goal.invariant-loop-i
invariant-loop-i l = (length l.w ≡ length l.initial.w) × (take (4 * l.i) l.w ≡ expand l.nk (take (4 * l.nk) l.initial.w) (l.i - l.nk))
