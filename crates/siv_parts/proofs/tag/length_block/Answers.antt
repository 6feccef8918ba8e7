-- `siv_parts::tag::length_block` meets its contract. Assumes nothing.
use Rattle.std.proofs.Common.{◌*◌, ◌∙◌}
use Rattle.siv_parts.proofs.Hashing.{two_words}
use Rattle.siv_parts.proofs.tag.length_block.Goals as goal

pub returns : goal.returns
returns c =
    let a = c.args in
    c.to_bytes.ensures ∙ two_words (a.ad * 8) (a.text * 8) c.bits.result c.bits-2.result c.bits.ensures c.bits-2.ensures
