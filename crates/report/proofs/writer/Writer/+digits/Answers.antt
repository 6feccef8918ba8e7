-- `Writer::digits` meets its contract. Assumes nothing.
use Rattle.std.proofs.Common.{arith}
use Rattle.reporting.proofs.Decimals.{digits_none, digits_more}
use Rattle.report.proofs.Writing.{none, then, adds_as, within}
use Rattle.report.proofs.writer.Writer.+digits.Goals as goal

pub returns-then-k-gt0 : goal.returns-then-k-gt0
returns-then-k-gt0 t c =
    adds_as (digits_more _ c.args.n (omega arith)) (within (omega arith) (then (omega arith) c.digits.ensures c.last_digit.ensures))

pub returns-else-k-gt0 : goal.returns-else-k-gt0
returns-else-k-gt0 t c = adds_as (digits_none _ _ (omega arith)) (within (omega arith) (none _))
