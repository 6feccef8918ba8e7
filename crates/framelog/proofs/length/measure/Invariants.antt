-- `framelog::length::measure` ends: the measure is what a log may still have.
use Rattle.std.proofs.Common.{◌+◌, ◌-◌, ◌≤◌}
use Rattle.sealing.specs.Limits.{max_log}
use Rattle.framelog.proofs.length.measure.Given as goal

abbrev pub invariant-loop-file : goal.invariant-loop-file
invariant-loop-file g l = l.len ≤ max_log + 65536

abbrev pub decreases-loop-file : goal.decreases-loop-file
decreases-loop-file g l = max_log + 1 - l.len
