-- For each public function, two answers that meet its contract, as the checker reads it, are equal, and so is what they
-- leave in the output. Assumes nothing.
use mathlib.Core.Path.{sym, ◌∙◌}
use Rattle.logic.specs.Promise.{Unique, UniqueMemory}
use Rattle.messaging.proofs.Told.{one_reading, one_written}
use Rattle.message.proofs.write.Kinds as write_kinds
use Rattle.message.proofs.write.Reads as write_reads
use Rattle.message.proofs.read.Kinds as read_kinds
use Rattle.message.proofs.read.Reads as read_reads

pub write_unique : Unique 4 write_kinds.ps write_kinds.r write_reads.Post
write_unique κs a x y e f p q = one_written x y (p.answer ∙ sym q.answer)

pub write_memory_unique : UniqueMemory 4 write_kinds.ps write_kinds.r write_reads.Post (λ κs e. e.1.1.1.1.0.now)
write_memory_unique κs a x y e f p q = p.memory ∙ sym q.memory

pub read_unique : Unique 3 read_kinds.ps read_kinds.r read_reads.Post
read_unique κs a x y e f p q = one_reading x y (p.answer ∙ sym q.answer)

pub read_memory_unique : UniqueMemory 3 read_kinds.ps read_kinds.r read_reads.Post (λ κs e. e.1.1.0.now)
read_memory_unique κs a x y e f p q = p.memory ∙ sym q.memory
