-- `join::join` meets its contract. Assumes nothing.
use Rattle.std.proofs.Common.{cond, not, replicate, sym, ap, ◌∙◌, arith, le-ltb}
use Rattle.answer.specs.Answers.{done, bad_record}
use Rattle.octets.specs.Xor.{◌⊕◌}
use Rattle.field.specs.Element.{value, element}
use Rattle.field.proofs.Element.{Sized, value_lt, value_of}
use Rattle.feeding.specs.Key.{h_of, same_element}
use Rattle.feeding.specs.Times.{times}
use Rattle.feeding.specs.Join.{joined_or, joined}
use Rattle.join.specs.Halving.{multiplied_by}
use Rattle.join.proofs.Times.{times_lt}
use Rattle.join.proofs.join.Goals as goal
use Rattle.join.proofs.join.Goals.{Start}

sized : (c : Start) → Sized c.args.first.acc
sized c = record { lo = omega arith; hi = omega arith }

pub returns : goal.returns
returns c =
    let a = c.args.first in
    let b = c.args.second in
    let n = c.args.n in
    let h = h_of a.key in
    let alike = (λ i. not (same_element (sym c.h_of-h.ensures i) (sym c.h_of.ensures i))) ∙ sym c.ne.ensures ∙ c.if-ne.false in
    let made = c.times-made.ensures ∙ ap (λ x. multiplied_by (value x) n (value a.acc)) c.h_of-h.ensures in
    let product = value_of (times (value h) n (value a.acc)) (times_lt (value h) n (value a.acc) (value_lt a.acc (sized (goal.at.returns c).Start))) (ap (λ m. m.product) made) in
    let acc = c.add.ensures ∙ ap (λ x. element (x ⊕ value b.acc)) product in
    (λ i. record { answer = done; hash = record { key = a.key; acc = acc i; pending = replicate 16 0; count = 0 }; dots = (made i).dots })
    ∙ sym (λ i. joined_or (cond (le-ltb 0 a.count c.if-first-gt0.false i) bad_record (cond (le-ltb 0 b.count c.if-second-gt0.false i) bad_record (cond (alike i) bad_record done))) (joined a b n))
