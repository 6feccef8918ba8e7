-- `aes::expansion::sum` meets its contract. Assumes nothing.
use mathlib.Core.Path.{refl}
use Rattle.octets.specs.Xor.{◌⊕◌}
use Rattle.fips197.specs.KeyExpansion.{sum}
use Rattle.aes.proofs.expansion.sum.Goals as goal

pub returns : goal.returns
unfolding sum ◌⊕◌
returns c = refl
