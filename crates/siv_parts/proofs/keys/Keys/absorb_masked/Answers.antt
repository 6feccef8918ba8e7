-- `siv_parts::keys::Keys::absorb_masked` meets its contract: the blocks that are left, hashed from here on, give the whole. Assumes nothing.
use Rattle.std.proofs.Common.{length, min, sym, ap, ◌∙◌, rules, subst}
use Rattle.std.specs.Slice.Iter.{chunks_rest}
use Rattle.field.specs.Element.{value, element}
use Rattle.field.proofs.Element.{Sized, value_lt, element_sized, element_value}
use Rattle.rfc8452.specs.Machine.{run}
use Rattle.rfc8452.specs.Blocks.{blocks}
use Rattle.modes.specs.Stream.{masked}
use Rattle.aead.specs.Cipher.{encrypted}
use Rattle.aead.proofs.Ciphers.{encrypted_length}
use Rattle.rfc8452.specs.Counter.{next_counter}
use Rattle.siv_parts.proofs.Hashing.{masked_turn, masked_none}
use Rattle.siv_parts.proofs.keys.Keys.absorb_masked.Goals as goal

pub loop-block-preserved : goal.loop-block-preserved
loop-block-preserved c =
    let l = c.loop-block in
    let k = c.args.self.now in
    let f = encrypted k.cipher in
    let h = value k.hash in
    let steps = c.in-Some.ensures.steps in
    let sixteen = l.invariant.2 in
    let rest = chunks_rest c.next.new.self in
    let turn = masked_turn next_counter f (encrypted_length k.cipher) h l.b (chunks_rest l.block-iterator) c.in-Some.block.now rest c.encrypt.result l.a c.absorb_front-a.result
    (value_lt l.a l.invariant.3) steps.1.0 (steps.1.1 ∙ ap (λ n. min n (length (chunks_rest l.block-iterator))) sixteen) steps.1.2 c.encrypt.ensures c.absorb_front-a.ensures in (
      search rules,
      tt,
      steps.0 ∙ sixteen,
      subst Sized (sym c.absorb_front-a.ensures) (element_sized _),
      ap (λ b. run h (value c.absorb_front-a.result) (blocks (masked next_counter f b rest))) c.next_counter-next.ensures ∙ turn ∙ l.invariant.4,
    )

pub returns : goal.returns
returns c =
    let l = c.loop-block in
    let k = c.args.self.now in
    sym (element_value l.a l.invariant.3)
    ∙ ap element (sym (masked_none next_counter (encrypted k.cipher) (value k.hash) (value l.a) l.b (chunks_rest l.block-iterator) c.in-None.ensures.steps.1.0) ∙ l.invariant.4)
