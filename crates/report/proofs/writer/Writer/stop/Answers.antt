-- `Writer::stop` meets its contract. Assumes nothing.
use Rattle.std.proofs.Common.{ℕ, arith, ◌++◌}
use Rattle.reporting.specs.Ascii.{ascii}
use Rattle.reporting.specs.Numbers.{decimal}
use Rattle.report.proofs.Writing.{then, adds_as, widened}
use Rattle.report.proofs.Lines.{stop_row}
use Rattle.report.proofs.writer.Writer.stop.Goals as goal

pub returns : goal.returns
returns c =
    let reason = widened (λ (n : ℕ). ascii "stop " ++ decimal n) c.from.ensures c.number.ensures in
    adds_as (stop_row c.args.reason c.args.at.offset c.args.at.frames) (then (omega arith) (then (omega arith) (then (omega arith) reason c.number-2.ensures) c.number-3.ensures) c.word.ensures)
