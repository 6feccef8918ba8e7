-- `limbs::mul64::mont_reduce` meets its contract. Assumes nothing.
use Rattle.std.proofs.Common.{slice_index, rules}
use Rattle.octets.specs.Xor.{◌⊕◌}
use Rattle.limbs.proofs.Folds64.{folded}
use Rattle.limbs.proofs.mul64.mont_reduce.Goals as goal

pub returns : goal.returns
unfolding ◌⊕◌
returns c =
    let v = c.args.v in
    folded (slice_index v 0) (slice_index v 1) (slice_index v 2) (slice_index v 3) (search rules) (search rules) (search rules) (search rules)
    c.times_inverse-a.ensures c.times_inverse-b.ensures
