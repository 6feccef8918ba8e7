-- `ghash::parts::Ghash::feed_padded` meets its contract. Assumes nothing.
use Prim.Native.Nat.{ℕ, min}
use mathlib.Core.Path.{◌≡◌, sym, ap, ◌∙◌}
use mathlib.Core.List.{map}
use native.Mathlib.Omega.{arith}
use lib.ListN.{length}
use lib.Seq.{take_all}
use Rattle.octets.specs.Numbers.{number}
use Rattle.field.specs.Element.{value, element}
use Rattle.field.proofs.Element.{value_of, element_value}
use Rattle.rfc8452.specs.Machine.{step, run}
use Rattle.rfc8452.specs.Blocks.{blocks}
use Rattle.rfc8452.proofs.Run.{step_lt}
use Rattle.rfc8452.specs.AppendixA.{reversed}
use Rattle.ghash.proofs.Fed.{reverse_value, fed_turn, fed_none}
use Rattle.ghash.proofs.parts.Ghash.feed_padded.Goals as goal
use Rattle.ghash.proofs.parts.Ghash.feed_padded.Goals.{Start}

held : (c : Start) → c.args.self.acc ≡ element (value c.args.self.acc)
held c = sym (element_value c.args.self.acc (record { lo = omega arith; hi = omega arith }))

pub loop-part-init : goal.loop-part-init
loop-part-init c = record {
  sixteen = cc;
  an_element = held (goal.at.loop-part-init c).Start;
  left = cc;
}

pub loop-part-preserved : goal.loop-part-preserved
loop-part-preserved c =
    let l = c.loop-part in
    let K : ℕ = value c.args.self.key in
    let s = l.part-iterator.rest.now in
    let part = c.in-Some.part.now in
    let turn = c.in-Some.ensures.steps in
    let long : length part ≡ min 16 (length s) = turn.1.1 ∙ ap (λ n. min n (length s)) l.invariant.sixteen in
    let x : ℕ = reversed (number part) in
    let b = c.block_of in
    let x-is = reverse_value b.result c.reverse.ensures ∙ ap reversed (b.ensures.whole ∙ ap number (take_all 16 part (omega (arith, long)))) in
    let next = c.step-acc.ensures ∙ ap (λ n. element (step K (value l.acc) n)) x-is in
    let next_is = value_of (step K (value l.acc) x) (step_lt K (value l.acc) x) next in
    record {
      sixteen = turn.0 ∙ l.invariant.sixteen;
      an_element = next ∙ ap element (sym next_is);
      left = ap (λ n. run K n (map reversed (blocks c.next.new.self.rest.now))) next_is ∙ sym (fed_turn K (value l.acc) s part c.next.new.self.rest.now turn.1.0 long turn.1.2) ∙ l.invariant.left;
    }

pub returns : goal.returns
returns c =
    let l = c.loop-part in
    let none = c.in-None.ensures.steps in
    let sum_is = sym (fed_none (value c.args.self.key) (value l.acc) l.part-iterator.rest.now none.1.0) ∙ l.invariant.left in
    λ i. record { key = c.args.self.key; acc = (l.invariant.an_element ∙ ap element sum_is) i }
