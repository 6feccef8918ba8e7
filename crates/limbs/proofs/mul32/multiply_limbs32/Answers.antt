-- `limbs::mul32::multiply_limbs32` meets its contract. Assumes nothing.
use Rattle.octets.specs.Xor.{◌⊕◌}
use Rattle.limbs.proofs.Words32.{limbs_words}
use Rattle.limbs.proofs.mul32.multiply_limbs32.Goals as goal

pub returns : goal.returns
unfolding ◌⊕◌
returns c =
    let given = c.args in
    limbs_words given.a0 given.a1 given.b0 given.b1 c.bmul32-z0.ensures c.bmul32-z1.ensures c.bmul32-z2.ensures
