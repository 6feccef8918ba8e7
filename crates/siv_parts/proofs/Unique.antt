-- For each public function, two answers that meet its contract, as the checker reads it, are equal, and so is what they leave in a
-- lent buffer. Assumes nothing.
use Rattle.std.proofs.Common.{sym, ◌∙◌}
use Rattle.logic.specs.Promise.{Unique, UniqueMemory}
use Rattle.siv_parts.proofs.keys.Keys.derive.Kinds as derive_kinds
use Rattle.siv_parts.proofs.keys.Keys.derive.Reads as derive_reads
use Rattle.siv_parts.proofs.counter.counter_block.Kinds as counter_block_kinds
use Rattle.siv_parts.proofs.counter.counter_block.Reads as counter_block_reads
use Rattle.siv_parts.proofs.counter.mask.Kinds as mask_kinds
use Rattle.siv_parts.proofs.counter.mask.Reads as mask_reads
use Rattle.siv_parts.proofs.keys.Keys.text_tag.Kinds as text_tag_kinds
use Rattle.siv_parts.proofs.keys.Keys.text_tag.Reads as text_tag_reads
use Rattle.siv_parts.proofs.keys.Keys.body_tag.Kinds as body_tag_kinds
use Rattle.siv_parts.proofs.keys.Keys.body_tag.Reads as body_tag_reads

pub derive_unique : Unique 1 derive_kinds.ps derive_kinds.r derive_reads.Post
derive_unique κs a x y e f p q = λ i. record { hash = (p.hash ∙ sym q.hash) i; cipher = (p.cipher ∙ sym q.cipher) i; nonce = (p.nonce_is ∙ sym q.nonce_is) i }

pub counter_block_unique : Unique 0 counter_block_kinds.ps counter_block_kinds.r counter_block_reads.Post
counter_block_unique κs a x y e f p q = p ∙ sym q

pub mask_memory_unique : UniqueMemory 2 mask_kinds.ps mask_kinds.r mask_reads.Post (λ κs e. e.1.1.0.now)
mask_memory_unique κs a x y e f p q = p ∙ sym q

pub text_tag_unique : Unique 3 text_tag_kinds.ps text_tag_kinds.r text_tag_reads.Post
text_tag_unique κs a x y e f p q = p ∙ sym q

pub body_tag_unique : Unique 3 body_tag_kinds.ps body_tag_kinds.r body_tag_reads.Post
body_tag_unique κs a x y e f p q = p ∙ sym q
