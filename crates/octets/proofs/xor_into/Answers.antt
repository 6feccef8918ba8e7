-- `octets::xor_into` meets its contract: after i turns the first i bytes of the pad are added. Assumes nothing.
use Rattle.std.proofs.Common.{refl, sym, ◌∙◌, arith}
use Rattle.octets.specs.Xor.{◌⊕◌}
use Rattle.octets.proofs.XorBytes.{xor_nil, xor_turn, xor_reached}
use Rattle.octets.proofs.xor_into.Goals as goal

pub loop-i-init : goal.loop-i-init
loop-i-init c = sym (xor_nil c.args.text.now)

pub loop-i-preserved : goal.loop-i-preserved
unfolding ◌⊕◌
loop-i-preserved c =
    let l = c.loop-i in
    xor_turn c.args.text.now c.args.pad.now l.text l.i _ (omega arith) (omega arith) l.invariant refl

pub returns : goal.returns
returns c =
    let l = c.loop-i in
    l.invariant ∙ xor_reached l.i c.args.text.now c.args.pad.now (omega arith)
