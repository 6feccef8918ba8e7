-- `framelog::walk::walk` ends: each turn uses something up.
use Rattle.framelog.specs.Place.{budget}
use Rattle.framelog.proofs.walk.walk.Given as goal

abbrev pub decreases-loop-next : goal.decreases-loop-next
decreases-loop-next g l = budget l.p
