-- For each public function, two answers that meet its contract, as the checker reads it, are equal, and so is what they leave in the
-- lent buffer. Assumes nothing.
use mathlib.Core.Path.{sym, ◌∙◌}
use Rattle.logic.specs.Promise.{Unique, UniqueMemory}
use Rattle.digits.proofs.hex_digit.Kinds as hex_digit_kinds
use Rattle.digits.proofs.hex_digit.Reads as hex_digit_reads
use Rattle.digits.proofs.is_hex.Kinds as is_hex_kinds
use Rattle.digits.proofs.is_hex.Reads as is_hex_reads
use Rattle.digits.proofs.decimal.Kinds as decimal_kinds
use Rattle.digits.proofs.decimal.Reads as decimal_reads
use Rattle.digits.proofs.from_hex.Kinds as from_hex_kinds
use Rattle.digits.proofs.from_hex.Reads as from_hex_reads
use Rattle.digits.proofs.to_hex.Kinds as to_hex_kinds
use Rattle.digits.proofs.to_hex.Reads as to_hex_reads

pub hex_digit_unique : Unique 0 hex_digit_kinds.ps hex_digit_kinds.r hex_digit_reads.Post
hex_digit_unique κs a x y e f p q = p ∙ sym q

pub is_hex_unique : Unique 1 is_hex_kinds.ps is_hex_kinds.r is_hex_reads.Post
is_hex_unique κs a x y e f p q = p ∙ sym q

pub decimal_unique : Unique 1 decimal_kinds.ps decimal_kinds.r decimal_reads.Post
decimal_unique κs a x y e f p q = p ∙ sym q

pub from_hex_unique : Unique 2 from_hex_kinds.ps from_hex_kinds.r from_hex_reads.Post
from_hex_unique κs a x y e f p q = p.count ∙ sym q.count

pub from_hex_memory_unique : UniqueMemory 2 from_hex_kinds.ps from_hex_kinds.r from_hex_reads.Post (λ κs e. e.1.0.now)
from_hex_memory_unique κs a x y e f p q = p.memory ∙ sym q.memory

pub to_hex_unique : Unique 2 to_hex_kinds.ps to_hex_kinds.r to_hex_reads.Post
to_hex_unique κs a x y e f p q = p.count ∙ sym q.count

pub to_hex_memory_unique : UniqueMemory 2 to_hex_kinds.ps to_hex_kinds.r to_hex_reads.Post (λ κs e. e.1.0.now)
to_hex_memory_unique κs a x y e f p q = p.memory ∙ sym q.memory
