-- For each public function, two answers that meet its contract, as the checker reads it, are equal. Assumes nothing.
use mathlib.Core.Path.{sym, ◌∙◌}
use Rattle.logic.specs.Promise.{Unique}
use Rattle.record.proofs.encode.Kinds as encode_kinds
use Rattle.record.proofs.encode.Reads as encode_reads
use Rattle.record.proofs.decode.Kinds as decode_kinds
use Rattle.record.proofs.decode.Reads as decode_reads

pub encode_unique : Unique 0 encode_kinds.ps encode_kinds.r encode_reads.Post
encode_unique κs a x y e f p q = p ∙ sym q

pub decode_unique : Unique 0 decode_kinds.ps decode_kinds.r decode_reads.Post
decode_unique κs a x y e f p q = p ∙ sym q
