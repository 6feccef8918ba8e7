-- `Writer::escaped` meets its contract. Assumes nothing.
use Rattle.std.proofs.Common.{ap, arith}
use lib.Seq.{take_all}
use Rattle.reporting.specs.Escapes.{escaped}
use Rattle.reporting.proofs.Escapes.{escaped_more}
use Rattle.report.proofs.Writing.{none, then, adds_as, within}
use Rattle.report.proofs.writer.Writer.escaped.Goals as goal

pub loop-b-init : goal.loop-b-init
unfolding escaped
loop-b-init c = record { room = c.requires; written = within (omega arith) (none _) }

pub loop-b-preserved : goal.loop-b-preserved
loop-b-preserved c =
    let l = c.loop-b.invariant in
    record { room = l.room; written = adds_as (escaped_more _ c.loop-b.b-index (omega arith)) (within (omega arith) (then (omega (arith, l.room)) l.written c.shown.ensures)) }

pub returns : goal.returns
returns c =
    let l = c.loop-b in
    within (omega arith) (adds_as (ap escaped (take_all l.b-index _ (omega arith))) l.invariant.written)
