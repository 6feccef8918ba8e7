-- For each public function, two answers that meet its contract, as the checker reads it, are equal. Assumes nothing.
use Rattle.std.proofs.Common.{sym, ◌∙◌}
use Rattle.logic.specs.Promise.{Unique}
use Rattle.feeding.proofs.Told.{join_one}
use Rattle.join.proofs.join.Kinds as join_kinds
use Rattle.join.proofs.join.Reads as join_reads
use Rattle.join.proofs.halving.times.Kinds as times_kinds
use Rattle.join.proofs.halving.times.Reads as times_reads

pub join_unique : Unique 0 join_kinds.ps join_kinds.r join_reads.Post
join_unique κs a x y e f p q = join_one x y (p ∙ sym q)

pub times_unique : Unique 0 times_kinds.ps times_kinds.r times_reads.Post
times_unique κs a x y e f p q = p ∙ sym q
