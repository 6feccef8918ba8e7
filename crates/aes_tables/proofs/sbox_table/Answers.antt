-- `aes_tables::sbox_table` meets its contract: antt computes the inverse and the affine map at each of the 256 bytes, and compares. Assumes nothing.
use mathlib.Core.Path.{refl}
use Rattle.octets.specs.Xor.{◌⊕◌}
use Rattle.gf2.specs.Carryless.{clmul_n, clmul}
use Rattle.gf2.specs.Remainder.{times_x, remainder_n, remainder}
use Rattle.fips197.specs.Field.{gmul, powers, inverse}
use Rattle.fips197.specs.Sbox.{affine, sbox, sbox_table}
use Rattle.aes_tables.proofs.sbox_table.Goals as goal

pub returns : goal.returns
unfolding sbox_table sbox affine inverse powers gmul remainder remainder_n times_x clmul clmul_n ◌⊕◌
returns c = refl
