-- `Writer::height` meets its contract. Assumes nothing.
use Rattle.std.proofs.Common.{ℕ, arith, ℤ, ◌++◌}
use Rattle.reporting.specs.Ascii.{ascii}
use Rattle.reporting.specs.Numbers.{decimal, fixed}
use Rattle.report.proofs.Writing.{then, adds_as, widened, by_bits}
use Rattle.report.proofs.Lines.{height_row}
use Rattle.report.proofs.writer.Writer.height.Goals as goal

pub returns : goal.returns
returns c =
    let alt = by_bits (λ (z : ℤ). ascii ", alt " ++ fixed 2 z) c.ranges.alt c.measure.ensures in
    let time = widened (λ (n : ℕ). ascii " m, time " ++ decimal n) c.from.ensures c.number.ensures in
    adds_as (height_row c.args.alt c.args.time) (then (omega arith) (then (omega arith) alt time) c.word.ensures)
