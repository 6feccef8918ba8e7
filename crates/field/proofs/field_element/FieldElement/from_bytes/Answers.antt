-- `field::FieldElement::from_bytes` meets its contract. Assumes nothing.
use Rattle.std.proofs.Common.{◌≡◌, ◌/◌, ◌%◌, ◌^◌, bit_and, ap, ◌∙◌, arith}
use Rattle.std.proofs.lemmas.Nat.{and_mask}
use Rattle.std.specs.Int.{w128}
use Rattle.octets.proofs.Endian.{from_le}
use Rattle.field.specs.Element.{element}
use Rattle.field.proofs.Element.{halves}
use Rattle.field.proofs.field_element.FieldElement.from_bytes.Goals as goal

pub returns : goal.returns
returns c =
    let n = c.from_le_bytes-n in
    let low : bit_and n.result 0xffff_ffff_ffff_ffff ≡ n.result % 2 ^ 64 = and_mask n.result 64 in
    (λ i. record { lo = low i; hi = n.result / 2 ^ 64 }) ∙ halves n.result n.type_inv ∙ ap element (n.ensures ∙ from_le w128 _ (omega arith))
