-- `report::stop_line` meets its contract. Assumes nothing.
use Rattle.std.proofs.Common.{rules, arith, sym, ◌∙◌}
use Rattle.report.proofs.Writing.{then, adds_as, whole}
use Rattle.report.proofs.Lines.{stop_line_row}
use Rattle.report.proofs.stop_line.Goals as goal

pub returns-clause-line : goal.returns-clause-line
returns-clause-line c =
    whole (sym c.is_enough.ensures ∙ c.if-not-is_enough.false) c.new-line.ensures.bytes c.new-line.ensures.nothing (search rules)
    (adds_as (stop_line_row c.args.reason c.args.at.offset c.args.at.frames c.args.note.now) (then (omega arith) (then (omega arith) c.stop.ensures c.escaped.ensures) c.byte.ensures))
