-- `NamedFile::fill`: what is filled lies in the buffer, and the measure is what is left of it.
use Rattle.std.proofs.Common.{◌≡◌, ◌-◌, ◌≤◌, length}
use Rattle.files.proofs.NamedFile.fill.Given as goal

abbrev pub invariant-loop-n : goal.invariant-loop-n
invariant-loop-n g l = record { within : l.n ≤ length l.buf; kept : length l.buf ≡ length l.initial.buf }

abbrev pub decreases-loop-n : goal.decreases-loop-n
decreases-loop-n g l = length l.initial.buf - l.n
