-- `octets::copy` meets its contract: after i turns the first i bytes are src's. Assumes nothing.
use Rattle.std.proofs.Common.{refl, ◌∙◌, arith}
use Rattle.octets.proofs.Copies.{copy_turn, copy_reached}
use Rattle.octets.proofs.copy.Goals as goal

pub loop-i-init : goal.loop-i-init
loop-i-init c = refl

pub loop-i-preserved : goal.loop-i-preserved
loop-i-preserved c =
    let l = c.loop-i in
    copy_turn c.args.src.now c.args.dst.now l.dst l.i _ (omega arith) (omega arith) l.invariant refl

pub returns : goal.returns
returns c =
    let l = c.loop-i in
    l.invariant ∙ copy_reached l.i c.args.src.now c.args.dst.now (omega arith)
