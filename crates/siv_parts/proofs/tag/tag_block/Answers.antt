-- `siv_parts::tag::tag_block` meets its contract. Assumes nothing.
use Rattle.std.proofs.Common.{ℕ, List, ap, ◌∙◌}
use Rattle.octets.specs.Strings.{xor_bytes}
use Rattle.rfc8452.specs.Tag.{without_top, tag_block}
use Rattle.siv_parts.proofs.tag.tag_block.Goals as goal

pub returns : goal.returns
unfolding tag_block
returns c =
    ap without_top (c.xor_into.ensures
    ∙ ap (λ (b : List ℕ). xor_bytes b c.args.nonce) c.to_bytes-b.ensures)
