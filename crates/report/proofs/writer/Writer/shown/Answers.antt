-- `Writer::shown` meets its contract. Assumes nothing.
use Rattle.std.proofs.Common.{sym, ◌∙◌, arith}
use Rattle.reporting.proofs.Escapes.{shown_plain, shown_escaped}
use Rattle.report.proofs.Writing.{adds_as, within}
use Rattle.report.proofs.writer.Writer.shown.Goals as goal

pub returns-then-is_plain : goal.returns-then-is_plain
returns-then-is_plain c = adds_as (shown_plain _ (sym c.is_plain.ensures ∙ c.if-is_plain.true)) (within (omega arith) c.byte.ensures)

pub returns-else-is_plain : goal.returns-else-is_plain
returns-else-is_plain c = adds_as (shown_escaped _ (sym c.is_plain.ensures ∙ c.if-is_plain.false)) c.hex_escape.ensures
