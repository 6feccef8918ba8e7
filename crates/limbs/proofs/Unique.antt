-- For each public function, two answers that meet its contract, as the checker reads it, are equal. Assumes nothing.
use mathlib.Core.Path.{sym, ◌∙◌}
use Rattle.logic.specs.Promise.{Unique}
use Rattle.limbs.proofs.mul64.dot.Kinds as dot_kinds
use Rattle.limbs.proofs.mul64.dot.Reads as dot_reads
use Rattle.limbs.proofs.mul32.dot32.Kinds as dot32_kinds
use Rattle.limbs.proofs.mul32.dot32.Reads as dot32_reads

pub dot_unique : Unique 0 dot_kinds.ps dot_kinds.r dot_reads.Post
dot_unique κs a x y e f p q = p ∙ sym q

pub dot32_unique : Unique 0 dot32_kinds.ps dot32_kinds.r dot32_reads.Post
dot32_unique κs a x y e f p q = p ∙ sym q
