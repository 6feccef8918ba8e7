-- `field::FieldElement::add` meets its contract. Assumes nothing.
use Rattle.std.proofs.Common.{arith}
use Rattle.octets.specs.Xor.{◌⊕◌}
use Rattle.field.proofs.Element.{add_words}
use Rattle.field.proofs.field_element.FieldElement.add.Goals as goal

pub returns : goal.returns
unfolding ◌⊕◌
returns c = add_words c.args.self c.args.rhs (record { lo = omega arith; hi = omega arith }) (record { lo = omega arith; hi = omega arith })
