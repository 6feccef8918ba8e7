-- `aes::expansion::rcon` meets its contract. Assumes nothing.
use mathlib.Core.Path.{◌≡◌}
use Prim.Native.Nat.{◌-◌, ◌≤◌, ◌<◌}
use Rattle.fips197.specs.KeyExpansion.{power}
use Rattle.aes.proofs.expansion.rcon.Given as goal

abbrev pub invariant-loop-k : goal.invariant-loop-k
invariant-loop-k l = (l._k - 1 ≤ l.j - 1) × (l.x < 256) × (l.x ≡ power (l._k - 1))
