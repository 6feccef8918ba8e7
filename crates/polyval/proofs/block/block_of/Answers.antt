-- `polyval::block::block_of` meets its contract. Assumes nothing.
use Rattle.std.proofs.Common.{take, ap, ◌∙◌}
use Rattle.octets.specs.Numbers.{number}
use Rattle.octets.proofs.Numbers.{bytes_from}
use Rattle.field.specs.Element.{element}
use Rattle.field.proofs.Element.{value_of}
use Rattle.rfc8452.proofs.Cut.{number_pasted, block_lt}
use Rattle.polyval.proofs.block.block_of.Goals as goal

pub returns : goal.returns
returns c =
    let s = c.args.s.now in
    let is = c.from_bytes.ensures ∙ ap (λ b. element (number b)) c.pasted.ensures ∙ ap element (number_pasted s) in
    record { is = is; whole = value_of (number (take 16 s)) (block_lt s (bytes_from s (λ i. (c.type_inv.s i).fits))) is }
