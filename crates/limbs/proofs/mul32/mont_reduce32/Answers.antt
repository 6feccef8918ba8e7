-- `limbs::mul32::mont_reduce32` meets its contract. Assumes nothing.
use Rattle.std.proofs.Common.{slice_index, rules}
use Rattle.octets.specs.Xor.{◌⊕◌}
use Rattle.limbs.proofs.Folds32.{folded}
use Rattle.limbs.proofs.mul32.mont_reduce32.Goals as goal

pub returns : goal.returns
unfolding ◌⊕◌
returns c =
    let v = c.args.v in
    folded (slice_index v 0) (slice_index v 1) (slice_index v 2) (slice_index v 3) (slice_index v 4) (slice_index v 5) (slice_index v 6) (slice_index v 7)
    (search rules) (search rules) (search rules) (search rules) (search rules) (search rules) (search rules) (search rules)
    c.times_inverse32-a.ensures c.times_inverse32-b.ensures c.times_inverse32-c.ensures c.times_inverse32-d.ensures c.join.ensures c.join-2.ensures
