-- For each public function, two answers that meet its contract, as the checker reads it, are equal, and so is what they leave in the
-- lent output. Assumes nothing.
use mathlib.Core.Path.{sym, ◌∙◌}
use Rattle.logic.specs.Promise.{Unique, UniqueMemory}
use Rattle.answer.proofs.Reasons.{one_answer}
use Rattle.siv.proofs.seal.Kinds as seal_kinds
use Rattle.siv.proofs.seal.Reads as seal_reads
use Rattle.siv.proofs.open.Kinds as open_kinds
use Rattle.siv.proofs.open.Reads as open_reads

pub seal_unique : Unique 5 seal_kinds.ps seal_kinds.r seal_reads.Post
seal_unique κs a x y e f p q = one_answer x y (p.answer ∙ sym q.answer)

pub seal_memory_unique : UniqueMemory 5 seal_kinds.ps seal_kinds.r seal_reads.Post (λ κs e. e.1.1.1.1.0.now)
seal_memory_unique κs a x y e f p q = p.memory ∙ sym q.memory

pub open_unique : Unique 5 open_kinds.ps open_kinds.r open_reads.Post
open_unique κs a x y e f p q = one_answer x y (p.answer ∙ sym q.answer)

pub open_memory_unique : UniqueMemory 5 open_kinds.ps open_kinds.r open_reads.Post (λ κs e. e.1.1.1.1.0.now)
open_memory_unique κs a x y e f p q = p.memory ∙ sym q.memory
