-- `report::line` meets its contract. Assumes nothing.
use Rattle.std.proofs.Common.{rules, arith, sym, ◌∙◌}
use Rattle.report.proofs.Writing.{then, adds_as, whole}
use Rattle.report.proofs.Lines.{line_row}
use Rattle.report.proofs.line.Goals as goal

pub returns-clause-line : goal.returns-clause-line
returns-clause-line c =
    whole (sym c.is_enough.ensures ∙ c.if-not-is_enough.false) c.new-line.ensures.bytes c.new-line.ensures.nothing (search rules)
    (adds_as (line_row c.args.frame.offset c.args.frame.kind c.args.answer c.args.label.now c.args.s.now) (then (omega arith) (then (omega arith) (then (omega arith) (then (omega arith) c.head.ensures c.byte.ensures) c.escaped.ensures) c.escaped-2.ensures) c.byte-2.ensures))
