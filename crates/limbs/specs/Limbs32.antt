-- The lists of words of mul32, the low word first, and what each of its steps answers. Assumes nothing.
use Rattle.std.specs.Prelude.{ℕ, ◌+◌, ◌*◌, ◌/◌, ◌%◌, ◌^◌, List, [], ◌∷◌, get_or}
use Rattle.octets.specs.Xor.{◌⊕◌}
use Rattle.gf2.specs.Carryless.{clmul}
use Rattle.gf2.specs.Words.{word_at}
use Rattle.word.specs.declared.Words.{Words}

-- x^32 + x^31 + x^30 + x^25: 64 places up it is x^-32
unfoldable pub tail32 : ℕ
tail32 = 2 ^ 32 + 2 ^ 31 + 2 ^ 30 + 2 ^ 25

-- a pair's four words
abbrev pub quarters_of : Words → List ℕ
quarters_of e = e.lo % 2 ^ 32 ∷ e.lo / 2 ^ 32 ∷ e.hi % 2 ^ 32 ∷ e.hi / 2 ^ 32 ∷ []

-- the low word of each column of a product of two words by two
abbrev pub columns_of_pairs : (a₀ a₁ b₀ b₁ : ℕ) → List ℕ
columns_of_pairs a₀ a₁ b₀ b₁ = clmul a₀ b₀ % 2 ^ 32 ∷ (clmul a₀ b₁ ⊕ clmul a₁ b₀) % 2 ^ 32 ∷ clmul a₁ b₁ % 2 ^ 32 ∷ []

-- the low word of each column of a product of four words by four
abbrev pub columns_of_words : (a₀ a₁ a₂ a₃ b₀ b₁ b₂ b₃ : ℕ) → List ℕ
columns_of_words a₀ a₁ a₂ a₃ b₀ b₁ b₂ b₃ =
    clmul a₀ b₀ % 2 ^ 32
    ∷ (clmul a₀ b₁ ⊕ clmul a₁ b₀) % 2 ^ 32
    ∷ (clmul a₀ b₂ ⊕ clmul a₁ b₁ ⊕ clmul a₂ b₀) % 2 ^ 32
    ∷ (clmul a₀ b₃ ⊕ clmul a₁ b₂ ⊕ clmul a₂ b₁ ⊕ clmul a₃ b₀) % 2 ^ 32
    ∷ (clmul a₁ b₃ ⊕ clmul a₂ b₂ ⊕ clmul a₃ b₁) % 2 ^ 32
    ∷ (clmul a₂ b₃ ⊕ clmul a₃ b₂) % 2 ^ 32
    ∷ clmul a₃ b₃ % 2 ^ 32
    ∷ []

abbrev pub columns_of : (a b : List ℕ) → List ℕ
columns_of a b =
    columns_of_words (get_or a 0 0) (get_or a 1 0) (get_or a 2 0) (get_or a 3 0)
    (get_or b 0 0) (get_or b 1 0) (get_or b 2 0) (get_or b 3 0)

abbrev pub words32_of : ℕ → List ℕ
words32_of n = n % 2 ^ 32 ∷ n / 2 ^ 32 ∷ []

-- of a product of eight words
abbrev pub value_of32 : List ℕ → ℕ
value_of32 v =
    ((((((get_or v 7 0 * 2 ^ 32 + get_or v 6 0) * 2 ^ 32 + get_or v 5 0) * 2 ^ 32 + get_or v 4 0) * 2 ^ 32 + get_or v 3 0) * 2 ^ 32
    + get_or v 2 0) * 2 ^ 32 + get_or v 1 0) * 2 ^ 32 + get_or v 0 0

-- the product of the 256 low digits of n
abbrev pub product_of32 : ℕ → List ℕ
product_of32 n =
    word_at 32 0 n ∷ word_at 32 1 n ∷ word_at 32 2 n ∷ word_at 32 3 n ∷ word_at 32 4 n ∷ word_at 32 5 n ∷ word_at 32 6 n ∷ word_at 32 7 n ∷ []
