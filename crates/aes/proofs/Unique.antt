-- For each public function, two answers that meet its contract, as the checker reads it, are equal. Assumes nothing.
use Rattle.std.proofs.Common.{ℕ, Fits, w64, sym, ◌∙◌}
use native.Mathlib.Bridge.{le_prop}
use Rattle.logic.specs.Promise.{Unique}
use Rattle.aes.proofs.expansion.Schedule176FromArrayU816.from.Kinds as expand128_kinds
use Rattle.aes.proofs.expansion.Schedule176FromArrayU816.from.Reads as expand128_reads
use Rattle.aes.proofs.expansion.Schedule240FromArrayU832.from.Kinds as expand256_kinds
use Rattle.aes.proofs.expansion.Schedule240FromArrayU832.from.Reads as expand256_reads
use Rattle.aes.proofs.Schedule.encrypt.Kinds as encrypt_kinds
use Rattle.aes.proofs.Schedule.encrypt.Reads as encrypt_reads

pub expand128_unique : Unique 0 expand128_kinds.ps expand128_kinds.r expand128_reads.Post
expand128_unique κs a x y e f p q = λ i. record { bytes = (p ∙ sym q) i; has_a_round = le_prop x.has_a_round y.has_a_round i }

pub expand256_unique : Unique 0 expand256_kinds.ps expand256_kinds.r expand256_reads.Post
expand256_unique κs a x y e f p q = λ i. record { bytes = (p ∙ sym q) i; has_a_round = le_prop x.has_a_round y.has_a_round i }

-- at any length
pub encrypt_unique : (N : ℕ) (fits : Fits w64 N) → Unique 2 (encrypt_kinds.ps N fits) (encrypt_kinds.r N fits) (encrypt_reads.Post N fits)
encrypt_unique N fits κs a x y e f p q = p ∙ sym q
