-- `siv_parts::keys::Keys::text_tag` meets its contract. Assumes nothing.
use Rattle.std.proofs.Common.{length, ap, ◌∙◌}
use Rattle.field.specs.Element.{value, element}
use Rattle.rfc8452.specs.Machine.{run}
use Rattle.rfc8452.specs.Blocks.{blocks}
use Rattle.aead.specs.Cipher.{encrypted}
use Rattle.rfc8452.specs.Tag.{length_block, tag_block, hashed, tag_under}
use Rattle.siv_parts.proofs.Hashing.{three_parts}
use Rattle.siv_parts.proofs.keys.Keys.text_tag.Goals as goal

pub returns : goal.returns
unfolding hashed tag_under
returns c =
    let a = c.args in
    let h = value a.self.now.hash in
    let ad = a.ad.now in
    let text = a.text.now in
    c.finished.ensures
    ∙ ap (λ n. encrypted a.self.now.cipher (tag_block a.self.now.nonce n))
    (three_parts h (blocks ad) (blocks text) (blocks (length_block (length ad) (length text))) c.absorb-first.result c.absorb-second.result
    (c.absorb-first.ensures ∙ ap (λ v. element (run h (value v) (blocks ad))) c.zero.ensures) c.absorb-second.ensures)
