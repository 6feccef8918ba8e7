-- For each public function, two answers that meet its contract, as the checker reads it, are equal. Assumes nothing.
use mathlib.Core.Path.{◌≡◌, sym, ap, ◌∙◌}
use mathlib.Core.List.{List}
use Prim.Native.Nat.{ℕ}
use Rattle.std.proofs.Common.{Result, Ok, Err}
use Rattle.answer.specs.declared.Reason.{Reason}
use Rattle.answer.proofs.Reasons.{never_done, one_reason}
use Rattle.ghash.specs.declared.parts.Ghash.{Ghash}
use Rattle.ghash.specs.Calls.{start_told, hashed_told}
use Rattle.logic.specs.Promise.{Unique}
use Rattle.ghash.proofs.parts.Ghash.start.Kinds as start_kinds
use Rattle.ghash.proofs.parts.Ghash.start.Reads as start_reads
use Rattle.ghash.proofs.parts.Ghash.feed_padded.Kinds as feed_padded_kinds
use Rattle.ghash.proofs.parts.Ghash.feed_padded.Reads as feed_padded_reads
use Rattle.ghash.proofs.parts.Ghash.finish.Kinds as finish_kinds
use Rattle.ghash.proofs.parts.Ghash.finish.Reads as finish_reads
use Rattle.ghash.proofs.ghash.Kinds as ghash_kinds
use Rattle.ghash.proofs.ghash.Reads as ghash_reads

-- what is told of what a call returned says what it returned
start_once : (r s : Result Ghash Reason) → start_told r ≡ start_told s → r ≡ s
start_once (Ok g) (Ok h) e = ap (λ t. Ok t.ghash) e
start_once (Ok g) (Err b) e = absurd (never_done b (sym (ap (λ t. t.answer) e)))
start_once (Err a) (Ok h) e = absurd (never_done a (ap (λ t. t.answer) e))
start_once (Err a) (Err b) e = ap Err (one_reason a b (ap (λ t. t.answer) e))

hashed_once : (r s : Result (List ℕ) Reason) → hashed_told r ≡ hashed_told s → r ≡ s
hashed_once (Ok g) (Ok h) e = ap (λ t. Ok t.tag) e
hashed_once (Ok g) (Err b) e = absurd (never_done b (sym (ap (λ t. t.answer) e)))
hashed_once (Err a) (Ok h) e = absurd (never_done a (ap (λ t. t.answer) e))
hashed_once (Err a) (Err b) e = ap Err (one_reason a b (ap (λ t. t.answer) e))

pub start_unique : Unique 1 start_kinds.ps start_kinds.r start_reads.Post
start_unique κs a x y e f p q = start_once x y (p ∙ sym q)

pub feed_padded_unique : Unique 1 feed_padded_kinds.ps feed_padded_kinds.r feed_padded_reads.Post
feed_padded_unique κs a x y e f p q = p ∙ sym q

pub finish_unique : Unique 0 finish_kinds.ps finish_kinds.r finish_reads.Post
finish_unique κs a x y e f p q = p ∙ sym q

pub ghash_unique : Unique 2 ghash_kinds.ps ghash_kinds.r ghash_reads.Post
ghash_unique κs a x y e f p q = hashed_once x y (p ∙ sym q)
