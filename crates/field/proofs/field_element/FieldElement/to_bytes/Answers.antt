-- `field::FieldElement::to_bytes` meets its contract. Assumes nothing.
use Rattle.std.proofs.Common.{◌≡◌, ◌+◌, ◌*◌, ◌%◌, ◌^◌, bit_or, refl, ap, ◌∙◌, arith}
use Rattle.std.proofs.lemmas.Grind.{or_after_shift}
use Rattle.std.specs.Int.{w128}
use Rattle.octets.specs.Numbers.{bytes_of}
use Rattle.octets.proofs.Endian.{to_le}
use Rattle.field.specs.Element.{value}
use Rattle.field.proofs.field_element.FieldElement.to_bytes.Goals as goal

pub returns : goal.returns
returns c =
    let high = c.from.result in
    let low = c.from-2.result in
    let both : bit_or (high * 2 ^ 64 % 2 ^ 128) low ≡ high * 2 ^ 64 + low = or_after_shift high (2 ^ 64) (2 ^ 128) low refl (omega arith) (omega arith) in
    let whole : high * 2 ^ 64 + low ≡ value c.args.self = omega arith in
    c.to_le_bytes.ensures ∙ to_le w128 _ ∙ ap (bytes_of 16) (both ∙ whole)
