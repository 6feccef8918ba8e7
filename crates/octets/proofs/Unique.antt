-- For each public function, two answers that meet its contract, as the checker reads it, are equal, and so is what they leave in a
-- lent buffer. Assumes nothing.
use mathlib.Core.Path.{sym, ◌∙◌}
use Rattle.logic.specs.Promise.{Unique, UniqueMemory}
use Rattle.octets.proofs.copy.Kinds as copy_kinds
use Rattle.octets.proofs.copy.Reads as copy_reads
use Rattle.octets.proofs.xor_into.Kinds as xor_into_kinds
use Rattle.octets.proofs.xor_into.Reads as xor_into_reads
use Rattle.octets.proofs.same_tag.Kinds as same_tag_kinds
use Rattle.octets.proofs.same_tag.Reads as same_tag_reads
use Rattle.octets.proofs.put.Kinds as put_kinds
use Rattle.octets.proofs.put.Reads as put_reads

pub copy_memory_unique : UniqueMemory 2 copy_kinds.ps copy_kinds.r copy_reads.Post (λ κs e. e.1.0.now)
copy_memory_unique κs a x y e f p q = p ∙ sym q

pub xor_into_memory_unique : UniqueMemory 2 xor_into_kinds.ps xor_into_kinds.r xor_into_reads.Post (λ κs e. e.1.0.now)
xor_into_memory_unique κs a x y e f p q = p ∙ sym q

pub same_tag_unique : Unique 0 same_tag_kinds.ps same_tag_kinds.r same_tag_reads.Post
same_tag_unique κs a x y e f p q = p ∙ sym q

pub put_unique : Unique 2 put_kinds.ps put_kinds.r put_reads.Post
put_unique κs a x y e f p q = p.next_is ∙ sym q.next_is

pub put_memory_unique : UniqueMemory 2 put_kinds.ps put_kinds.r put_reads.Post (λ κs e. e.0.now)
put_memory_unique κs a x y e f p q = p.out_is ∙ sym q.out_is
