-- `frame::scan` meets its contract. The loop's invariant: what the whole log scans to is what stands before the place,
-- and then the scan from there. Assumes nothing.
use Prim.Native.Nat.{◌-◌, ◌≤◌}
use mathlib.Core.Path.{◌≡◌}
use lib.ListN.{length, drop}
use Rattle.framing.specs.Scan.{ahead, scan_of}
use Rattle.frame.proofs.scan.Given as goal

abbrev pub invariant-loop-at : goal.invariant-loop-at
invariant-loop-at l = (l.at ≤ length l.log) × (l.frames ≤ l.at) × (scan_of l.log ≡ ahead l.at l.frames (scan_of (drop l.at l.log)))

abbrev pub decreases-loop-at : goal.decreases-loop-at
decreases-loop-at l = length l.log - l.at
