-- `siv_parts::keys::Keys::finished` meets its contract. Assumes nothing.
use Rattle.std.proofs.Common.{ℕ, List, ap, ◌∙◌, arith}
use Rattle.field.specs.Element.{value, element}
use Rattle.field.proofs.Element.{value_lt, value_of}
use Rattle.rfc8452.specs.Machine.{run}
use Rattle.rfc8452.specs.Blocks.{blocks}
use Rattle.rfc8452.proofs.Run.{run_lt}
use Rattle.aead.specs.Cipher.{encrypted}
use Rattle.rfc8452.specs.Tag.{length_block, tag_block}
use Rattle.siv_parts.proofs.keys.Keys.finished.Goals as goal

pub returns : goal.returns
returns c =
    let a = c.args in
    let k = a.self.now in
    let h = value k.hash in
    let sized = value_lt a.acc (record { lo = omega (arith, c.well_formed); hi = omega (arith, c.well_formed) }) in
    let xs = blocks (length_block a.ad a.text) in
    let hash = value_of (run h (value a.acc) xs) (run_lt h (value a.acc) xs sized)
    (c.absorb-hash.ensures ∙ ap (λ (b : List ℕ). element (run h (value a.acc) (blocks b))) c.length_block.ensures) in
    c.encrypt.ensures ∙ ap (encrypted k.cipher) (c.tag_block.ensures ∙ ap (tag_block k.nonce) hash)
