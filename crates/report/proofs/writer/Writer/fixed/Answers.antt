-- `Writer::fixed` meets its contract. Assumes nothing.
use Rattle.std.proofs.Common.{◌∙◌, arith}
use Rattle.reporting.specs.Numbers.{fixed}
use Rattle.report.proofs.Writing.{then, adds_as, by_bits}
use Rattle.report.proofs.Lines.{signed_row}
use Rattle.report.proofs.writer.Writer.fixed.Goals as goal

pub returns : goal.returns
returns c =
    by_bits (fixed c.args.places) c.ranges.z (adds_as (signed_row c.args.places _ (c.from.ensures ∙ c.unsigned_abs.ensures.value)) (then (omega arith) c.sign.ensures c.in_places.ensures))
