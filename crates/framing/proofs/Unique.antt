-- For each public function and each conversion, two answers that meet its contract, as the checker reads it, are equal. Assumes nothing.
use mathlib.Core.Path.{sym, ◌∙◌}
use Rattle.logic.specs.Promise.{Unique}
use Rattle.framing.proofs.Told.{one_found, one_kind_for}
use Rattle.framing.proofs.kind.row_of.Kinds as row_of_kinds
use Rattle.framing.proofs.kind.row_of.Reads as row_of_reads
use Rattle.framing.proofs.kind.U8FromKind.from.Kinds as from_kinds
use Rattle.framing.proofs.kind.U8FromKind.from.Reads as from_reads
use Rattle.framing.proofs.kind.KindTryFromU8.try_from.Kinds as try_from_kinds
use Rattle.framing.proofs.kind.KindTryFromU8.try_from.Reads as try_from_reads

pub row_of_unique : Unique 0 row_of_kinds.ps row_of_kinds.r row_of_reads.Post
row_of_unique κs a x y e f p q = one_found x y (p ∙ sym q)

pub from_unique : Unique 0 from_kinds.ps from_kinds.r from_reads.Post
from_unique κs a x y e f p q = p ∙ sym q

pub try_from_unique : Unique 0 try_from_kinds.ps try_from_kinds.r try_from_reads.Post
try_from_unique κs a x y e f p q = one_kind_for a.0 x y p q
