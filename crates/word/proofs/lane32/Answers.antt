-- `word::lane32` meets its contract. Assumes nothing.
use Rattle.std.proofs.Common.{refl}
use Rattle.octets.specs.Xor.{◌⊕◌}
use Rattle.word.proofs.lane32.Goals as goal

pub returns : goal.returns
unfolding ◌⊕◌
returns c = refl
