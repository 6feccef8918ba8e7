-- `siv::put_sealed` meets its contract. Assumes nothing.
use Prim.Native.Nat.{ℕ, ◌+◌}
use mathlib.Core.Path.{◌≡◌, ap, ◌∙◌}
use mathlib.Core.List.{List, ◌++◌}
use native.Mathlib.Omega.{arith}
use lib.ListN.{length, drop}
use Rattle.aead.specs.Cipher.{encrypted}
use Rattle.modes.specs.Mode.{sealed_by}
use Rattle.modes.proofs.Stream.{masked_length}
use Rattle.rfc8452.specs.Counter.{counter_block, next_counter, mask_under}
use Rattle.siv.proofs.Writing.{put_behind}
use borrow.Author.Rules.{rules}
use Rattle.siv.proofs.put_sealed.Goals as goal

pub returns : goal.returns
unfolding sealed_by
returns c =
    let a = c.args in
    let f = encrypted a.keys.now.cipher in
    let text = a.text.now in
    let out = a.out.now in
    let made = c.text_tag-t in
    let put = c.put_masked in
    let last = c.copy in
    let sixteen : length made.result ≡ 16 = search rules in
    put_behind (mask_under f made.result text) made.result out put.new.out last.new.dst (length text)
    (masked_length next_counter f (counter_block made.result) text) (omega (arith, c.requires)) put.ensures last.ensures
    ∙ ap (λ n. (mask_under f made.result text ++ made.result) ++ drop (length text + n) out) sixteen
    ∙ ap (λ (t : List ℕ). (mask_under f t text ++ t) ++ drop (length text + 16) out) made.ensures
