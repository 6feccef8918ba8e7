-- For each public function, two answers that meet its contract, as the checker reads it, show the same table. Assumes nothing.
use mathlib.Core.Path.{sym, ◌∙◌}
use Rattle.logic.specs.Promise.{Fixes}
use Rattle.aes_tables.proofs.sbox_table.Kinds as sbox_table_kinds
use Rattle.aes_tables.proofs.sbox_table.Reads as sbox_table_reads
use Rattle.aes_tables.proofs.word_table.Kinds as word_table_kinds
use Rattle.aes_tables.proofs.word_table.Reads as word_table_reads

pub sbox_table_unique : Fixes 1 sbox_table_kinds.ps sbox_table_kinds.r sbox_table_reads.Post (λ κs x e. x.now)
sbox_table_unique κs a x y e f p q = p ∙ sym q

pub word_table_unique : Fixes 1 word_table_kinds.ps word_table_kinds.r word_table_reads.Post (λ κs x e. x.now)
word_table_unique κs a x y e f p q = p ∙ sym q
