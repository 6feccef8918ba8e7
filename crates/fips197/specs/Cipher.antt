-- The cipher, FIPS 197 section 5.1. A state is the list of its 16 bytes in the order of the input: row r of column c stands at r + 4 c.
-- A key schedule is the list of its bytes, the round key of round r at 16 r. Assumes nothing.
use Rattle.std.specs.Prelude.{List, [], ◌∷◌, ◌++◌, ℕ, zero, suc, ◌+◌, ◌*◌, ◌/◌, ◌%◌, ◌-◌, get_or}
use Rattle.octets.specs.Xor.{◌⊕◌}
use Rattle.fips197.specs.Table.{tab}
use Rattle.fips197.specs.Field.{gmul}
use Rattle.fips197.specs.Sbox.{sbox}

-- the byte of s in row r and column c, each modulo 4
abbrev pub cell : List ℕ → ℕ → ℕ → ℕ
cell s r c = get_or s (r % 4 + 4 * (c % 4)) 0

-- n bytes of a, each through the S-box
abbrev pub subs : ℕ → List ℕ → List ℕ
subs n a = tab n (λ i. sbox (get_or a i 0))

-- 5.1.1
unfoldable pub sub_bytes : List ℕ → List ℕ
sub_bytes s = subs 16 s

-- 5.1.2: row r moves left by r
unfoldable pub shift_rows : List ℕ → List ℕ
shift_rows s = tab 16 (λ i. cell s (i % 4) (i / 4 + i % 4))

-- 5.1.3: a byte of a column becomes {02} times itself plus {03} times the next one down plus the other two; a, b, c, d are the column from that byte on
unfoldable pub mix : ℕ → ℕ → ℕ → ℕ → ℕ
mix a b c d = gmul 2 a ⊕ gmul 3 b ⊕ c ⊕ d

abbrev pub mix_column : ℕ → ℕ → ℕ → ℕ → List ℕ
mix_column a b c d = mix a b c d ∷ mix b c d a ∷ mix c d a b ∷ mix d a b c ∷ []

-- column c of s, mixed
abbrev pub mixed : List ℕ → ℕ → List ℕ
mixed s c = mix_column (cell s 0 c) (cell s 1 c) (cell s 2 c) (cell s 3 c)

unfoldable pub mix_columns : List ℕ → List ℕ
mix_columns s = mixed s 0 ++ (mixed s 1 ++ (mixed s 2 ++ mixed s 3))

-- 5.1.4: with the 16 bytes of the schedule w for round r
unfoldable pub add_round_key : List ℕ → List ℕ → ℕ → List ℕ
add_round_key s w r = tab 16 (λ i. get_or s i 0 ⊕ get_or w (16 * r + i) 0)

-- 5.1: the state after r rounds, from the state s, which has round key 0 in it
unfoldable pub rounds : List ℕ → List ℕ → ℕ → List ℕ
rounds w s zero = s
rounds w s (suc r) = add_round_key (mix_columns (shift_rows (sub_bytes (rounds w s r)))) w (suc r)

-- nr rounds, of which the last mixes no columns
unfoldable pub cipher : ℕ → List ℕ → List ℕ → List ℕ
cipher nr w s = add_round_key (shift_rows (sub_bytes (rounds w (add_round_key s w 0) (nr - 1)))) w nr
