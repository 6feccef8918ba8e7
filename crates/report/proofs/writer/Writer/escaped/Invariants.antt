-- `Writer::escaped`: the bytes so far are written, each in at most four.
use Rattle.std.proofs.Common.{◌*◌, length, take}
use Rattle.reporting.specs.Escapes.{escaped}
use Rattle.report.specs.Writing.{HasRoom, Adds}
use Rattle.report.proofs.writer.Writer.escaped.Given as goal

abbrev pub invariant-loop-b : goal.invariant-loop-b
invariant-loop-b l = record { room : HasRoom l.fn.self (4 * length l.s); written : Adds (4 * l.b-index) l.fn.self (escaped (take l.b-index l.s)) l.self }
