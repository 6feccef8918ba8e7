-- SubBytes and MixColumns of one byte, as a word. FIPS 197 has no such table: it is how the code takes the two steps at once. Assumes nothing.
use Rattle.std.specs.Prelude.{List, [], ◌∷◌, ℕ}
use Rattle.octets.specs.Numbers.{number}
use Rattle.fips197.specs.Table.{tab}
use Rattle.fips197.specs.Field.{gmul}
use Rattle.fips197.specs.Sbox.{sbox}

-- what a byte y in row 0 of a column adds to rows 0 to 3 of the mixed column (5.1.3), row 0 in the lowest byte
unfoldable pub mixed0 : ℕ → ℕ
mixed0 y = number (gmul 2 y ∷ y ∷ y ∷ gmul 3 y ∷ [])

-- the same of each byte, after the S-box
unfoldable pub word_table : List ℕ
word_table = tab 256 (λ x. mixed0 (sbox x))
