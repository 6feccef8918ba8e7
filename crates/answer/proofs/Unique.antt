-- For each public function, two answers that meet its contract, as the checker reads it, are equal. Assumes nothing.
use mathlib.Core.Path.{sym, ◌∙◌}
use denote.RattleType.{RattleType}
use denote.Param.Laws.{Laws}
use Rattle.logic.specs.Promise.{Unique}
use Rattle.answer.proofs.number.Kinds as number_kinds
use Rattle.answer.proofs.number.Reads as number_reads
use Rattle.answer.proofs.U8FromReason.from.Kinds as from_kinds
use Rattle.answer.proofs.U8FromReason.from.Reads as from_reads

pub number_unique : (T : RattleType) (laws : Laws T) → Unique 2 (number_kinds.ps T laws) (number_kinds.r T laws) (number_reads.Post T laws)
number_unique T laws κs a x y e f p q = p ∙ sym q

pub from_unique : Unique 0 from_kinds.ps from_kinds.r from_reads.Post
from_unique κs a x y e f p q = p ∙ sym q
