-- `siv_parts::tag::absorb_front` meets its contract. Assumes nothing.
use Rattle.std.proofs.Common.{ℕ, List, ap, ◌∙◌, arith}
use Rattle.field.specs.Element.{value, element}
use Rattle.rfc8452.specs.Machine.{run}
use Rattle.rfc8452.specs.Blocks.{blocks}
use Rattle.siv_parts.proofs.Hashing.{front_masked}
use Rattle.siv_parts.proofs.tag.absorb_front.Goals as goal

pub returns : goal.returns
returns c =
    let a = c.args in
    c.absorb.ensures
    ∙ ap (λ (x : List ℕ). element (run (value a.hash) (value a.acc) (blocks x)))
    (front_masked a.text.now a.pad c.copy.new.dst c.xor_into.new.text c.min-n.result (omega (arith, c.min-n.ensures)) c.copy.ensures c.xor_into.ensures)
