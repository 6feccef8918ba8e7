-- `field::FieldElement::reverse` meets its contract: each word is reversed, and they change places. Assumes nothing.
use Rattle.std.proofs.Common.{◌∙◌, arith}
use Rattle.std.specs.Int.{w64}
use Rattle.octets.proofs.Endian.{swapped}
use Rattle.field.proofs.Bytes.{reversed_words}
use Rattle.field.proofs.field_element.FieldElement.reverse.Goals as goal

pub returns : goal.returns
returns c =
    let e = c.args.self in
    reversed_words e (record { lo = omega arith; hi = omega arith }) (omega arith) (omega arith)
    (c.swap_bytes.ensures ∙ swapped w64 e.hi) (c.swap_bytes-2.ensures ∙ swapped w64 e.lo)
