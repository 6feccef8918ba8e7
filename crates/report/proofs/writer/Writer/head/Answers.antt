-- `Writer::head` meets its contract. Assumes nothing.
use Rattle.std.proofs.Common.{ℕ, arith, ◌++◌}
use Rattle.reporting.specs.Ascii.{ascii}
use Rattle.reporting.specs.Numbers.{decimal}
use Rattle.report.proofs.Writing.{then, adds_as, widened}
use Rattle.report.proofs.Lines.{head_row}
use Rattle.report.proofs.writer.Writer.head.Goals as goal

pub returns : goal.returns
returns c =
    let number = λ (n : ℕ). ascii " " ++ decimal n in
    adds_as (head_row c.args.frame.offset c.args.frame.kind c.args.answer) (then (omega arith) (then (omega arith) c.decimal.ensures (widened number c.from.ensures c.number.ensures)) (widened number c.from-2.ensures c.number-2.ensures))
