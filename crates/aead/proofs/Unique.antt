-- For each public function, two answers that meet its contract, as the checker reads it, are equal.
-- Assumes nothing.
use mathlib.Core.Path.{sym, ◌∙◌}
use Rattle.logic.specs.Promise.{Unique}
use Rattle.answer.proofs.Reasons.{one_answer}
use Rattle.aead.proofs.cipher.CipherFromArrayU816.from.Kinds as short_key_kinds
use Rattle.aead.proofs.cipher.CipherFromArrayU816.from.Reads as short_key_reads
use Rattle.aead.proofs.cipher.CipherFromArrayU832.from.Kinds as long_key_kinds
use Rattle.aead.proofs.cipher.CipherFromArrayU832.from.Reads as long_key_reads
use Rattle.aead.proofs.cipher.Cipher.under.Kinds as under_kinds
use Rattle.aead.proofs.cipher.Cipher.under.Reads as under_reads
use Rattle.aead.proofs.cipher.Cipher.encrypt.Kinds as encrypt_kinds
use Rattle.aead.proofs.cipher.Cipher.encrypt.Reads as encrypt_reads
use Rattle.aead.proofs.lengths.check_seal.Kinds as check_seal_kinds
use Rattle.aead.proofs.lengths.check_seal.Reads as check_seal_reads
use Rattle.aead.proofs.lengths.check_open.Kinds as check_open_kinds
use Rattle.aead.proofs.lengths.check_open.Reads as check_open_reads

pub short_key_unique : Unique 0 short_key_kinds.ps short_key_kinds.r short_key_reads.Post
short_key_unique κs a x y e f p q = p ∙ sym q

pub long_key_unique : Unique 0 long_key_kinds.ps long_key_kinds.r long_key_reads.Post
long_key_unique κs a x y e f p q = p ∙ sym q

pub under_unique : Unique 1 under_kinds.ps under_kinds.r under_reads.Post
under_unique κs a x y e f p q = p ∙ sym q

pub encrypt_unique : Unique 1 encrypt_kinds.ps encrypt_kinds.r encrypt_reads.Post
encrypt_unique κs a x y e f p q = p ∙ sym q

pub check_seal_unique : Unique 0 check_seal_kinds.ps check_seal_kinds.r check_seal_reads.Post
check_seal_unique κs a x y e f p q = one_answer x y (p ∙ sym q)

pub check_open_unique : Unique 0 check_open_kinds.ps check_open_kinds.r check_open_reads.Post
check_open_unique κs a x y e f p q = one_answer x y (p ∙ sym q)
