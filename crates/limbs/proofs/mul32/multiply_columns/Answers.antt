-- `limbs::mul32::multiply_columns` meets its contract. Assumes nothing.
use Rattle.std.proofs.Common.{slice_index}
use Rattle.octets.specs.Xor.{◌⊕◌}
use Rattle.limbs.proofs.Words32.{columns_words}
use Rattle.limbs.proofs.mul32.multiply_columns.Goals as goal

pub returns : goal.returns
unfolding ◌⊕◌
returns c =
    let a = c.args.a in
    let b = c.args.b in
    columns_words (slice_index a 0) (slice_index a 1) (slice_index a 2) (slice_index a 3) (slice_index b 0) (slice_index b 1) (slice_index b 2) (slice_index b 3)
    c.multiply_limbs32-l.ensures c.multiply_limbs32-h.ensures c.multiply_limbs32-m.ensures
