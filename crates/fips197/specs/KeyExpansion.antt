-- The key expansion, FIPS 197 section 5.2. A schedule is the list of its bytes, word i at 4 i. Assumes nothing.
use Rattle.std.specs.Prelude.{List, [], ◌∷◌, ◌++◌, Bool, true, false, ℕ, zero, suc, ◌+◌, ◌*◌, ◌/◌, ◌%◌, ◌-◌, get_or, eqb, ltb}
use Rattle.octets.specs.Xor.{◌⊕◌}
use Rattle.fips197.specs.Table.{tab}
use Rattle.fips197.specs.Field.{gmul}
use Rattle.fips197.specs.Cipher.{subs}

-- word i of a schedule
abbrev pub word : List ℕ → ℕ → List ℕ
word w i = get_or w (4 * i) 0 ∷ get_or w (4 * i + 1) 0 ∷ get_or w (4 * i + 2) 0 ∷ get_or w (4 * i + 3) 0 ∷ []

-- two words, byte by byte
unfoldable pub sum : List ℕ → List ℕ → List ℕ
sum a b = tab 4 (λ j. get_or a j 0 ⊕ get_or b j 0)

abbrev pub rot_word : List ℕ → List ℕ
rot_word a = tab 4 (λ j. get_or a ((j + 1) % 4) 0)

abbrev pub sub_word : List ℕ → List ℕ
sub_word a = subs 4 a

-- x^n
unfoldable pub power : ℕ → ℕ
power zero = 1
power (suc n) = gmul 2 (power n)

-- Rcon[j]
abbrev pub rcon : ℕ → List ℕ
rcon j = power (j - 1) ∷ 0 ∷ 0 ∷ 0 ∷ []

abbrev pub pick : Bool → List ℕ → List ℕ → List ℕ
pick true a b = a
pick false a b = b

-- what is added to word i - nk: of the word t before word i
unfoldable pub temp : ℕ → ℕ → List ℕ → List ℕ
temp nk i t =
    pick (eqb (i % nk) 0) (sum (sub_word (rot_word t)) (rcon (i / nk)))
    (pick (ltb 6 nk) (pick (eqb (i % nk) 4) (sub_word t) t) t)

abbrev pub next_word : ℕ → List ℕ → ℕ → List ℕ
next_word nk w i = sum (word w (i - nk)) (temp nk i (word w (i - 1)))

abbrev pub with_next : ℕ → List ℕ → ℕ → List ℕ
with_next nk w i = w ++ next_word nk w i

-- the key's nk words and n more
unfoldable pub expand : ℕ → List ℕ → ℕ → List ℕ
expand nk key zero = key
expand nk key (suc n) = with_next nk (expand nk key n) (nk + n)

-- 4 (nr + 1) words in all
unfoldable pub key_expansion : ℕ → ℕ → List ℕ → List ℕ
key_expansion nk nr key = expand nk key (4 * (nr + 1) - nk)
