-- `ghash::ghash` meets its contract. Assumes nothing.
use mathlib.Core.Path.{sym, ap, ◌∙◌}
use Prim.Native.Nat.{◌%◌}
use lib.ListN.{length}
use borrow.Author.Tests.{eq-eqb}
use Rattle.answer.specs.Answers.{done}
use Rattle.ghash.specs.Calls.{fed_of, ghash_tag_of}
use Rattle.ghash.proofs.Call.{hashed}
use Rattle.ghash.proofs.ghash.Goals as goal

pub returns : goal.returns
returns c =
    let s = c.args.blocks.now in
    let begun = c.in_ok-begun.ensures in
    let tag = c.finish.ensures ∙ ap ghash_tag_of (c.feed_padded.ensures ∙ ap (λ r. fed_of r.ghash s) begun) in
    (λ i. record { answer = done; tag = tag i }) ∙ hashed c.args.key.now s (sym (ap (λ r. r.answer) begun)) (eq-eqb (length s % 16) 0 c.if-blocks-ne0.false)
