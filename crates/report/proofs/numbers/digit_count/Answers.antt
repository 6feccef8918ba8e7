-- `report::numbers::digit_count` meets its contract. Assumes nothing.
use Rattle.std.proofs.Common.{arith}
use Rattle.reporting.proofs.Decimals.{count_is}
use Rattle.report.proofs.numbers.digit_count.Goals as goal

pub returns-clause-value : goal.returns-clause-value
returns-clause-value c =
    omega (arith, count_is c.ilog10.result c.args.n _ c.max.ensures c.ilog10.ensures.power_le c.ilog10.ensures.next_power_gt)
