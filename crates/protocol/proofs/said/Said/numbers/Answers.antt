-- `Said::numbers` meets its contract: what has room is copied over the zeros. Assumes nothing.
use Rattle.std.proofs.Common.{ap, ◌∙◌, arith, ℕ, List, ◌++◌, drop}
use Rattle.std.specs.Prelude.{replicate}
use Rattle.octets.proofs.Copies.{copy_reached}
use Rattle.protocol.specs.declared.said.Said.{Said}
use Rattle.protocol.proofs.said.Said.numbers.Goals as goal

abbrev saying : List ℕ → Said
saying l = record { kind = 0; bytes = 0; numbers = l }

pub returns : goal.returns
returns c =
    let n = c.min-count.result in
    ap saying (ap (λ (l : List ℕ). l ++ drop n (replicate 5 0)) c.copy_from_slice.ensures.after ∙ copy_reached n c.args.s.now (replicate 5 0) (omega arith))
