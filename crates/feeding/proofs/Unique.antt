-- For the conversion, two answers that meet its contract, as the checker reads it, are equal. Assumes nothing.
use mathlib.Core.Path.{sym, ◌∙◌}
use Rattle.logic.specs.Promise.{Unique}
use Rattle.feeding.proofs.FedFromJoined.from.Kinds as from_kinds
use Rattle.feeding.proofs.FedFromJoined.from.Reads as from_reads

pub from_unique : Unique 0 from_kinds.ps from_kinds.r from_reads.Post
from_unique κs a x y e f p q = p ∙ sym q
