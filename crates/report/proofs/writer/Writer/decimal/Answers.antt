-- `Writer::decimal` meets its contract. Assumes nothing.
use Rattle.std.proofs.Common.{ℕ, ap}
use Rattle.reporting.specs.Numbers.{digits, decimal}
use Rattle.report.proofs.Writing.{adds_as, within}
use Rattle.report.proofs.writer.Writer.decimal.Goals as goal

pub returns : goal.returns
unfolding decimal
returns c = adds_as (ap (λ (k : ℕ). digits k c.args.n) c.digit_count.ensures.value) (within c.digit_count.ensures.upper_bound c.digits.ensures)
