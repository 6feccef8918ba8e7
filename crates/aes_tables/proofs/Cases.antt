-- The table of words against FIPS 197's MixColumns, and its first word. Assumes nothing.
use mathlib.Core.Path.{◌≡◌, refl, sym, ◌∙◌}
use mathlib.Core.List.{[], ◌∷◌}
use Prim.Native.Nat.{ℕ, ◌<◌}
use lib.ListN.{length, get_or}
use Rattle.octets.specs.Xor.{◌⊕◌}
use Rattle.octets.specs.Numbers.{number, bytes_of}
use Rattle.octets.proofs.Xor.{zero_⊕, ⊕-zero}
use Rattle.octets.proofs.Numbers.{bytes_of-number}
use Rattle.gf2.specs.Carryless.{clmul_n, clmul}
use Rattle.gf2.specs.Remainder.{times_x, remainder_n, remainder}
use Rattle.fips197.specs.Field.{gmul, powers, inverse}
use Rattle.fips197.specs.Sbox.{affine, sbox}
use Rattle.fips197.specs.Cipher.{mix, mix_column}
use Rattle.fips197.proofs.Field.{gmul_lt}
use Rattle.fips197.proofs.Table.{tab_length}
use Rattle.aes_tables.specs.Words.{mixed0, word_table}

twice_zero : gmul 2 0 ≡ 0
unfolding gmul remainder remainder_n times_x clmul clmul_n ◌⊕◌
twice_zero = refl

thrice_zero : gmul 3 0 ≡ 0
unfolding gmul remainder remainder_n times_x clmul clmul_n ◌⊕◌
thrice_zero = refl

-- 5.1.3: the word of a byte is the mixed column of that byte and three zeros
pub word_is_mixed : (y : ℕ) → y < 256 → bytes_of 4 (mixed0 y) ≡ mix_column y 0 0 0
unfolding mixed0 mix
word_is_mixed y h =
    bytes_of-number (gmul 2 y ∷ y ∷ y ∷ gmul 3 y ∷ []) (gmul_lt 2 y, (h, (h, (gmul_lt 3 y, tt)))) ∙ sym (simp (twice_zero, thrice_zero, zero_⊕, ⊕-zero))

-- a word for each byte; that of {00}, whose S-box is {63}, has {02} {63} = {c6} in row 0 and {03} {63} = {a5} in row 3
pub word_for_each : length word_table ≡ 256
unfolding word_table
word_for_each = tab_length 256 (λ x. mixed0 (sbox x))

pub first_word : get_or word_table 0 0 ≡ 0xa56363c6
unfolding word_table mixed0 number sbox affine inverse powers gmul remainder remainder_n times_x clmul clmul_n ◌⊕◌
first_word = refl
