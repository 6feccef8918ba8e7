-- `siv::put_masked` meets its contract. Assumes nothing.
use mathlib.Core.Path.{sym, ap, ◌∙◌}
use native.Mathlib.Omega.{arith}
use lib.ListN.{length, take}
use lib.Seq.{length-take-le}
use Rattle.modes.specs.Stream.{masked}
use Rattle.aead.specs.Cipher.{encrypted}
use Rattle.rfc8452.specs.Counter.{next_counter, mask_under}
use Rattle.siv.proofs.Writing.{changed_front}
use Rattle.siv.proofs.put_masked.Goals as goal

pub slice_bounds-mask-end-2 : goal.slice_bounds-mask-end-2
slice_bounds-mask-end-2 c =
    let text = c.args.text.now in
    sym (length-take-le (length text) c.copy.new.dst (omega arith))

pub returns : goal.returns
returns c =
    let a = c.args in
    let dst = c.copy.new.dst in
    changed_front (mask_under (encrypted a.keys.now.cipher) a.tag) a.text.now a.out.now dst c.mask.new.text c.requires c.copy.ensures
    (c.mask.ensures ∙ ap (λ b. masked next_counter (encrypted a.keys.now.cipher) b (take (length a.text.now) dst)) c.counter_block.ensures)
