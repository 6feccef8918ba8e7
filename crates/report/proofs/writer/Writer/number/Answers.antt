-- `Writer::number` meets its contract. Assumes nothing.
use Rattle.std.proofs.Common.{arith}
use Rattle.report.proofs.Writing.{then}
use Rattle.report.proofs.writer.Writer.number.Goals as goal

pub returns : goal.returns
returns c = then (omega arith) c.word.ensures c.decimal.ensures
