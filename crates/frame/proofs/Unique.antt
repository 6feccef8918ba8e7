-- For each public function, two answers that meet its contract, as the checker reads it, are equal; of a scan the bytes
-- handed back, the place where they lie, the count and the stop reason. Assumes nothing.
use Prim.Native.Nat.{ℕ}
use mathlib.Core.Path.{sym, ◌∙◌}
use mathlib.Core.List.{List}
use Rattle.logic.specs.Promise.{Unique, Fixes}
use Rattle.std.specs.Prelude.{Result}
use Rattle.answer.specs.declared.Reason.{Reason}
use Rattle.answer.proofs.Reasons.{one_answer}
use Rattle.framing.proofs.Told.{one_front}
use Rattle.frame.proofs.kind.is_known.Kinds as is_known_kinds
use Rattle.frame.proofs.kind.is_known.Reads as is_known_reads
use Rattle.frame.proofs.kind.is_allowed.Kinds as is_allowed_kinds
use Rattle.frame.proofs.kind.is_allowed.Reads as is_allowed_reads
use Rattle.frame.proofs.position.from_bytes.Kinds as from_bytes_kinds
use Rattle.frame.proofs.position.from_bytes.Reads as from_bytes_reads
use Rattle.frame.proofs.position.to_bytes.Kinds as to_bytes_kinds
use Rattle.frame.proofs.position.to_bytes.Reads as to_bytes_reads
use Rattle.frame.proofs.position.is_in_range.Kinds as is_in_range_kinds
use Rattle.frame.proofs.position.is_in_range.Reads as is_in_range_reads
use Rattle.frame.proofs.front_of.Kinds as front_of_kinds
use Rattle.frame.proofs.front_of.Reads as front_of_reads
use Rattle.frame.proofs.scan.Kinds as scan_kinds
use Rattle.frame.proofs.scan.Reads as scan_reads

pub is_known_unique : Unique 0 is_known_kinds.ps is_known_kinds.r is_known_reads.Post
is_known_unique κs a x y e f p q = p ∙ sym q

pub is_allowed_unique : Unique 0 is_allowed_kinds.ps is_allowed_kinds.r is_allowed_reads.Post
is_allowed_unique κs a x y e f p q = p ∙ sym q

pub from_bytes_unique : Unique 0 from_bytes_kinds.ps from_bytes_kinds.r from_bytes_reads.Post
from_bytes_unique κs a x y e f p q = p ∙ sym q

pub to_bytes_unique : Unique 0 to_bytes_kinds.ps to_bytes_kinds.r to_bytes_reads.Post
to_bytes_unique κs a x y e f p q = p ∙ sym q

pub is_in_range_unique : Unique 0 is_in_range_kinds.ps is_in_range_kinds.r is_in_range_reads.Post
is_in_range_unique κs a x y e f p q = p ∙ sym q

pub front_of_unique : Unique 1 front_of_kinds.ps front_of_kinds.r front_of_reads.Post
front_of_unique κs a x y e f p q = one_front x y (p ∙ sym q)

pub scan_unique : Fixes 1 scan_kinds.ps scan_kinds.r scan_reads.Post {T = List ℕ × (ℕ × ℕ) × ℕ × Result Unit Reason} (λ κs x e. (x.prefix.now, x.prefix.ref_ptr, x.frames, x.stop))
scan_unique κs a x y e f p q =
    (λ i. (
      (p.0.part_is ∙ sym q.0.part_is) i,
      (p.1 ∙ sym q.1) i,
      (p.0.frames_is ∙ sym q.0.frames_is) i,
      one_answer x.stop y.stop (p.0.stop_is ∙ sym q.0.stop_is) i,
    ))
