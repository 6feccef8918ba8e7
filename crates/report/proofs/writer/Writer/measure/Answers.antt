-- `Writer::measure` meets its contract. Assumes nothing.
use Rattle.std.proofs.Common.{arith}
use Rattle.reporting.specs.Numbers.{fixed}
use Rattle.report.proofs.Writing.{then, by_bits}
use Rattle.report.proofs.writer.Writer.measure.Goals as goal

pub returns : goal.returns
returns c = then (omega arith) c.word.ensures (by_bits (fixed c.args.places) c.ranges.z c.fixed.ensures)
