-- For each public function, two answers that meet its contract, as the checker reads it, are equal. Assumes nothing.
use Rattle.std.proofs.Common.{sym, ◌∙◌}
use Rattle.logic.specs.Promise.{Unique}
use Rattle.word.proofs.bmul64.Kinds as bmul64_kinds
use Rattle.word.proofs.bmul64.Reads as bmul64_reads
use Rattle.word.proofs.bmul32.Kinds as bmul32_kinds
use Rattle.word.proofs.bmul32.Reads as bmul32_reads
use Rattle.word.proofs.reverse64.Kinds as reverse64_kinds
use Rattle.word.proofs.reverse64.Reads as reverse64_reads
use Rattle.word.proofs.reverse32.Kinds as reverse32_kinds
use Rattle.word.proofs.reverse32.Reads as reverse32_reads
use Rattle.word.proofs.product64.Kinds as product64_kinds
use Rattle.word.proofs.product64.Reads as product64_reads

pub bmul64_unique : Unique 0 bmul64_kinds.ps bmul64_kinds.r bmul64_reads.Post
bmul64_unique κs a x y e f p q = p ∙ sym q

pub bmul32_unique : Unique 0 bmul32_kinds.ps bmul32_kinds.r bmul32_reads.Post
bmul32_unique κs a x y e f p q = p ∙ sym q

pub reverse64_unique : Unique 0 reverse64_kinds.ps reverse64_kinds.r reverse64_reads.Post
reverse64_unique κs a x y e f p q = p ∙ sym q

pub reverse32_unique : Unique 0 reverse32_kinds.ps reverse32_kinds.r reverse32_reads.Post
reverse32_unique κs a x y e f p q = p ∙ sym q

pub product64_unique : Unique 0 product64_kinds.ps product64_kinds.r product64_reads.Post
product64_unique κs a x y e f p q = p ∙ sym q
