-- `aes_tables::word_table` meets its contract: antt computes the S-box at each of the 256 bytes and compares it with row 1 of the word,
-- and makes each word anew from its row 1. Assumes nothing.
use mathlib.Core.Path.{refl}
use Rattle.octets.specs.Numbers.{number}
use Rattle.octets.specs.Xor.{◌⊕◌}
use Rattle.gf2.specs.Carryless.{clmul_n, clmul}
use Rattle.gf2.specs.Remainder.{times_x, remainder_n, remainder}
use Rattle.fips197.specs.Field.{gmul, powers, inverse}
use Rattle.fips197.specs.Sbox.{affine, sbox, sbox_table}
use Rattle.aes_tables.specs.Words.{mixed0}
use Rattle.aes_tables.proofs.Entry.{words_of_lem}
use Rattle.aes_tables.proofs.word_table.Goals as goal

pub returns : goal.returns
unfolding mixed0 number sbox_table sbox affine inverse powers gmul remainder remainder_n times_x clmul clmul_n ◌⊕◌
returns c = words_of_lem _ refl refl
