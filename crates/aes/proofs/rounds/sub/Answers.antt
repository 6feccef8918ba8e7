-- `aes::rounds::sub` meets its contract. Assumes nothing.
use mathlib.Core.Path.{ap, ◌∙◌}
use Prim.Native.Nat.{ℕ, ◌/◌, ◌%◌}
use Rattle.fips197.proofs.Sbox.{sbox_lt}
use Rattle.fips197.specs.Sbox.{sbox}
use Rattle.aes.proofs.Words.{middle}
use Rattle.aes.proofs.rounds.sub.Goals as goal

pub returns : goal.returns
returns c = let x = c.args.x in ap (λ (v : ℕ). v / 256 % 256) c.lookup.ensures ∙ middle (sbox (x % 256)) (sbox_lt (x % 256))
