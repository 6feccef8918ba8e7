-- `Writer::angles` meets its contract. Assumes nothing.
use Rattle.std.proofs.Common.{arith, ℤ, ◌++◌}
use Rattle.reporting.specs.Ascii.{ascii}
use Rattle.reporting.specs.Numbers.{fixed}
use Rattle.report.proofs.Writing.{then, adds_as, by_bits}
use Rattle.report.proofs.Lines.{angles_row}
use Rattle.report.proofs.writer.Writer.angles.Goals as goal

pub returns : goal.returns
returns c =
    let lat = by_bits (λ (z : ℤ). ascii "lat " ++ fixed 7 z) c.ranges.lat c.measure.ensures in
    let lon = by_bits (λ (z : ℤ). ascii " deg, lon " ++ fixed 7 z) c.ranges.lon c.measure-2.ensures in
    adds_as (angles_row c.args.lat c.args.lon) (then (omega arith) (then (omega arith) lat lon) c.word.ensures)
