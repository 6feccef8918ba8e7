-- `aes::Schedule::encrypt` meets its contract. Assumes nothing.
use mathlib.Core.Path.{◌≡◌}
use Rattle.fips197.specs.Cipher.{rounds}
use Rattle.aes.specs.State.{state_of}
use Rattle.aes.proofs.Schedule.encrypt.Given as goal

abbrev pub invariant-loop-key : goal.invariant-loop-key
invariant-loop-key g l = state_of l.s ≡ rounds l.self.bytes (state_of l.initial.s) l.key-index
