-- For each public function, two answers that meet its contract, as the checker reads it, are equal, and so is what they
-- leave in the lent buffer. Assumes nothing.
use mathlib.Core.Path.{sym, ◌∙◌}
use Rattle.logic.specs.Promise.{Unique, UniqueMemory}
use Rattle.report.proofs.line.Kinds as line_kinds
use Rattle.report.proofs.line.Reads as line_reads
use Rattle.report.proofs.position_line.Kinds as position_line_kinds
use Rattle.report.proofs.position_line.Reads as position_line_reads
use Rattle.report.proofs.stop_line.Kinds as stop_line_kinds
use Rattle.report.proofs.stop_line.Reads as stop_line_reads

pub line_unique : Unique 3 line_kinds.ps line_kinds.r line_reads.Post
line_unique κs a x y e f p q = p.0.length_is ∙ sym q.0.length_is

pub line_memory_unique : UniqueMemory 3 line_kinds.ps line_kinds.r line_reads.Post (λ κs e. e.1.1.1.1.0.now)
line_memory_unique κs a x y e f p q = p.0.out_is ∙ sym q.0.out_is

pub position_line_unique : Unique 1 position_line_kinds.ps position_line_kinds.r position_line_reads.Post
position_line_unique κs a x y e f p q = p.0.length_is ∙ sym q.0.length_is

pub position_line_memory_unique : UniqueMemory 1 position_line_kinds.ps position_line_kinds.r position_line_reads.Post (λ κs e. e.1.1.0.now)
position_line_memory_unique κs a x y e f p q = p.0.out_is ∙ sym q.0.out_is

pub stop_line_unique : Unique 2 stop_line_kinds.ps stop_line_kinds.r stop_line_reads.Post
stop_line_unique κs a x y e f p q = p.0.length_is ∙ sym q.0.length_is

pub stop_line_memory_unique : UniqueMemory 2 stop_line_kinds.ps stop_line_kinds.r stop_line_reads.Post (λ κs e. e.1.1.1.0.now)
stop_line_memory_unique κs a x y e f p q = p.0.out_is ∙ sym q.0.out_is
