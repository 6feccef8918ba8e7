-- `ghash::parts::Ghash::start` meets its contract. Assumes nothing.
use mathlib.Core.Path.{◌≡◌, sym, ap, ◌∙◌}
use mathlib.Core.Bool.{Bool, cond, not}
use mathlib.Core.List.{List}
use Prim.Native.Nat.{ℕ}
use lib.Dec.{eqb}
use native.Mathlib.Omega.{arith}
use lib.ListN.{length}
use lib.Seq.{take_all}
use borrow.Author.Tests.{eq-eqb}
use Rattle.answer.specs.Answers.{done, key_length}
use Rattle.gf2.specs.Polyval.{mulx}
use Rattle.octets.specs.Numbers.{number}
use Rattle.field.specs.Element.{element}
use Rattle.rfc8452.specs.AppendixA.{reversed, key_for}
use Rattle.ghash.specs.Calls.{Started}
use Rattle.ghash.proofs.Fed.{reverse_value}
use Rattle.ghash.proofs.parts.Ghash.start.Goals as goal

-- by the outcome of the test
abbrev by_test : List ℕ → Bool → Started
by_test key t =
    cond (eqb (cond (not t) key_length done) done) (record { answer = done; ghash = record { key = element (key_for key); acc = element 0 } })
    (record { answer = cond (not t) key_length done; ghash = record { key = element 0; acc = element 0 } })

pub returns : goal.returns
returns c =
    let k = c.args.key.now in
    let long : length k ≡ 16 = c.if-key-ne16.false in
    let number_is = c.block_of.ensures.whole ∙ ap number (take_all 16 k (omega arith)) in
    let key = c.mulx.ensures
    ∙ ap (λ n. element (mulx n)) (reverse_value c.block_of.result c.reverse.ensures)
    ∙ ap (λ n. element (mulx (reversed n))) number_is in
    (λ i. record { answer = done; ghash = record { key = key i; acc = element 0 } }) ∙ sym (ap (by_test k) (eq-eqb (length k) 16 long))
