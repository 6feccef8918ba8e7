-- `polyval::rf::groups` meets its contract. Assumes nothing.
use Rattle.std.proofs.Common.{◌/◌, length, min, sym, ap, ◌∙◌, arith}
use lib.ListN.{length-take}
use Rattle.feeding.specs.Formulas.{groups_of}
use Rattle.rfc8452.specs.Blocks.{blocks}
use Rattle.polyval.proofs.Groups.{group_blocks, still_filled, groups_turn, groups_end}
use Rattle.polyval.proofs.rf.groups.Goals as goal

pub group-held-requires : goal.group-held-requires
group-held-requires c =
    let n = c.args.n in
    let s = c.loop-part.part-iterator.rest.now in
    let turn = c.in-Some.ensures.steps in
    let long = turn.1.1 ∙ ap (λ k. min k (length s)) c.loop-part.invariant.size in
    omega (arith, c.requires.fits.1, ap length (group_blocks n c.requires.fits.0 s c.in-Some.part.now c.next.new.self.rest.now turn.1.0 long), length-take n (blocks s))

pub loop-part-preserved : goal.loop-part-preserved
loop-part-preserved c =
    let l = c.loop-part in
    let n = c.args.n in
    let some = c.requires.fits.0 in
    let s = l.part-iterator.rest.now in
    let x = c.in-Some.part.now in
    let t = c.next.new.self.rest.now in
    let turn = c.in-Some.ensures.steps in
    let long = turn.1.1 ∙ ap (λ k. min k (length s)) l.invariant.size in
    record {
      size = turn.0 ∙ l.invariant.size;
      filled = still_filled n some s x t turn.1.0 long turn.1.2 l.invariant.filled;
      left = ap (λ h. groups_of (length (blocks t) / n) n c.args.powers h (blocks t)) c.group-held.ensures
          ∙ sym (groups_turn n some s x t turn.1.0 long turn.1.2 l.invariant.filled c.args.powers l.held) ∙ l.invariant.left;
    }

pub returns : goal.returns
returns c =
    let l = c.loop-part in
    sym (groups_end c.args.n c.requires.fits.0 c.args.powers l.held l.part-iterator.rest.now c.in-None.ensures.steps.1.0) ∙ l.invariant.left
