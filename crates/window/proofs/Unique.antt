-- For each public function, two answers that meet its contract, as the checker reads it, are equal, and so is what they
-- leave in the window. Assumes nothing.
use mathlib.Core.Path.{sym, ◌∙◌}
use Rattle.logic.specs.Promise.{Unique, UniqueMemory}
use Rattle.answer.proofs.Reasons.{one_answer}
use Rattle.window.proofs.Steps.{one_step}
use Rattle.window.proofs.log_answer.Kinds as log_answer_kinds
use Rattle.window.proofs.log_answer.Reads as log_answer_reads
use Rattle.window.proofs.next_step.Kinds as next_step_kinds
use Rattle.window.proofs.next_step.Reads as next_step_reads
use Rattle.window.proofs.slide.Kinds as slide_kinds
use Rattle.window.proofs.slide.Reads as slide_reads

pub log_answer_unique : Unique 0 log_answer_kinds.ps log_answer_kinds.r log_answer_reads.Post
log_answer_unique κs a x y e f p q = one_answer x y (p ∙ sym q)

pub next_step_unique : Unique 1 next_step_kinds.ps next_step_kinds.r next_step_reads.Post
next_step_unique κs a x y e f p q = one_step x y (p ∙ sym q)

pub slide_unique : Unique 1 slide_kinds.ps slide_kinds.r slide_reads.Post
slide_unique κs a x y e f p q = p.held_is ∙ sym q.held_is

pub slide_memory_unique : UniqueMemory 1 slide_kinds.ps slide_kinds.r slide_reads.Post (λ κs e. e.0.now)
slide_memory_unique κs a x y e f p q = p.window_is ∙ sym q.window_is
