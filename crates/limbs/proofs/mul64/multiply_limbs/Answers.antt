-- `limbs::mul64::multiply_limbs` meets its contract. Assumes nothing.
use Rattle.octets.specs.Xor.{◌⊕◌}
use Rattle.limbs.proofs.Words64.{limbs_words}
use Rattle.limbs.proofs.mul64.multiply_limbs.Goals as goal

pub returns : goal.returns
unfolding ◌⊕◌
returns c =
    let given = c.args in
    limbs_words given.a0 given.a1 given.b0 given.b1 c.bmul64-z0.ensures c.bmul64-z1.ensures c.bmul64-z2.ensures
