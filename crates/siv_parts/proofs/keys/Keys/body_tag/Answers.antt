-- `siv_parts::keys::Keys::body_tag` meets its contract. Assumes nothing.
use Rattle.std.proofs.Common.{ℕ, List, length, sym, ap, ◌∙◌}
use Rattle.field.specs.Element.{value, element}
use Rattle.rfc8452.specs.Machine.{run}
use Rattle.rfc8452.specs.Blocks.{blocks}
use Rattle.modes.specs.Stream.{masked}
use Rattle.aead.specs.Cipher.{encrypted}
use Rattle.modes.proofs.Stream.{masked_length}
use Rattle.rfc8452.specs.Counter.{counter_block, next_counter, mask_under}
use Rattle.rfc8452.specs.Tag.{length_block, tag_block, hashed, tag_under}
use Rattle.siv_parts.proofs.Hashing.{three_parts}
use Rattle.siv_parts.proofs.keys.Keys.body_tag.Goals as goal

pub returns : goal.returns
unfolding hashed tag_under
returns c =
    let a = c.args in
    let h = value a.self.now.hash in
    let f = encrypted a.self.now.cipher in
    let ad = a.ad.now in
    let text = mask_under f a.tag a.body.now in
    let first = c.absorb-first in
    let second = c.absorb_masked-second in
    c.finished.ensures
    ∙ ap (λ n. f (tag_block a.self.now.nonce (run h (value second.result) (blocks (length_block (length ad) n))))) (sym (masked_length next_counter f (counter_block a.tag) a.body.now))
    ∙ ap (λ n. f (tag_block a.self.now.nonce n))
    (three_parts h (blocks ad) (blocks text) (blocks (length_block (length ad) (length text))) first.result second.result
    (first.ensures ∙ ap (λ v. element (run h (value v) (blocks ad))) c.zero.ensures)
    (second.ensures ∙ ap (λ (b : List ℕ). element (run h (value first.result) (blocks (masked next_counter f b a.body.now)))) c.counter_block.ensures))
