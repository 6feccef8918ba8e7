-- `polyval::rf::absorb` meets its contract. Assumes nothing.
use Rattle.std.proofs.Common.{take, drop, sym, ap, ◌∙◌, arith}
use Rattle.rfc8452.specs.Blocks.{blocks}
use Rattle.rfc8452.proofs.Parts.{blocks-length}
use Rattle.feeding.specs.Formulas.{rf_run}
use Rattle.polyval.specs.Sizes.{sizes_of}
use Rattle.polyval.proofs.Groups.{front_filled, groups_then_lone}
use Rattle.polyval.proofs.rf.absorb.Goals as goal

pub overflow_mul-full-in-InGroups : goal.overflow_mul-full-in-InGroups
overflow_mul-full-in-InGroups c = omega (arith, c.block_count.ensures, blocks-length c.args.s.now)

pub groups-requires-in-InGroups-clause-filled : goal.groups-requires-in-InGroups-clause-filled
groups-requires-in-InGroups-clause-filled c =
    let cut = c.split_at in
    front_filled c.args.s.now cut.result.0.now cut.result.1.now c.block_count.result c.block_count.ensures
    (cut.ensures.front ∙ ap (λ n. take n c.args.s.now) c.min.ensures) (cut.ensures.back ∙ ap (λ n. drop n c.args.s.now) c.min.ensures)

pub returns-in-Alone : goal.returns-in-Alone
unfolding rf_run
returns-in-Alone c = c.groups.ensures ∙ sym (ap (λ g. rf_run (sizes_of g) c.args.powers c.args.acc (blocks c.args.s.now)) c.in-Alone.is)

pub returns-in-InGroups : goal.returns-in-InGroups
returns-in-InGroups c =
    let cut = c.split_at in
    groups_then_lone c.args.s.now cut.result.0.now cut.result.1.now c.block_count.result c.block_count.ensures
    (cut.ensures.front ∙ ap (λ n. take n c.args.s.now) c.min.ensures) (cut.ensures.back ∙ ap (λ n. drop n c.args.s.now) c.min.ensures)
    c.args.powers c.args.acc c.groups-in-InGroups.result c.groups-in-InGroups-2.result c.groups-in-InGroups.ensures c.groups-in-InGroups-2.ensures
    ∙ sym (ap (λ g. rf_run (sizes_of g) c.args.powers c.args.acc (blocks c.args.s.now)) c.in-InGroups.is)
