-- Whole blocks at FIPS 197's examples: antt computes each from the definitions. Assumes nothing.
use mathlib.Core.Path.{◌≡◌, refl}
use Rattle.octets.specs.Xor.{◌⊕◌}
use Rattle.octets.specs.Numbers.{bytes_of}
use Rattle.gf2.specs.Carryless.{clmul_n, clmul}
use Rattle.gf2.specs.Remainder.{times_x, remainder_n, remainder}
use Rattle.fips197.specs.Field.{gmul, powers, inverse}
use Rattle.fips197.specs.Sbox.{affine, sbox}
use Rattle.fips197.specs.Cipher.{sub_bytes, shift_rows, mix, mix_columns, add_round_key, rounds, cipher}
use Rattle.fips197.specs.KeyExpansion.{sum, power, temp, expand, key_expansion}
use Rattle.fips197.specs.Aes.{aes}
use Rattle.fips197_examples.specs.Examples.{appendix_b, appendix_c1, appendix_c3}

pub b : aes appendix_b.key appendix_b.input ≡ appendix_b.output
unfolding bytes_of aes cipher rounds add_round_key mix_columns mix shift_rows sub_bytes key_expansion expand temp power sum sbox affine inverse powers gmul remainder remainder_n times_x clmul clmul_n ◌⊕◌
b = refl

pub c1 : aes appendix_c1.key appendix_c1.input ≡ appendix_c1.output
unfolding bytes_of aes cipher rounds add_round_key mix_columns mix shift_rows sub_bytes key_expansion expand temp power sum sbox affine inverse powers gmul remainder remainder_n times_x clmul clmul_n ◌⊕◌
c1 = refl

pub c3 : aes appendix_c3.key appendix_c3.input ≡ appendix_c3.output
unfolding bytes_of aes cipher rounds add_round_key mix_columns mix shift_rows sub_bytes key_expansion expand temp power sum sbox affine inverse powers gmul remainder remainder_n times_x clmul clmul_n ◌⊕◌
c3 = refl
