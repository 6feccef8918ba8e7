-- `field::FieldElement::mulx` meets its contract. Assumes nothing.
use Rattle.std.proofs.Common.{arith}
use Rattle.octets.specs.Xor.{◌⊕◌}
use Rattle.field.proofs.Double.{doubled}
use Rattle.field.proofs.field_element.FieldElement.mulx.Goals as goal

pub returns : goal.returns
unfolding ◌⊕◌
returns c = let e = c.args.self in doubled e.lo e.hi (omega arith) (omega arith)
