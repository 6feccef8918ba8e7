-- The lists of words of mul64, the low word first, and what each of its steps answers. Assumes nothing.
use Rattle.std.specs.Prelude.{ℕ, ◌+◌, ◌*◌, ◌%◌, ◌^◌, List, [], ◌∷◌, get_or}
use Rattle.octets.specs.Xor.{◌⊕◌}
use Rattle.gf2.specs.Carryless.{clmul}
use Rattle.gf2.specs.Words.{word_at}

-- of a product of four words
abbrev pub value_of : List ℕ → ℕ
value_of v = ((get_or v 3 0 * 2 ^ 64 + get_or v 2 0) * 2 ^ 64 + get_or v 1 0) * 2 ^ 64 + get_or v 0 0

-- the product of the 256 low digits of n
abbrev pub product_of : ℕ → List ℕ
product_of n = word_at 64 0 n ∷ word_at 64 1 n ∷ word_at 64 2 n ∷ word_at 64 3 n ∷ []

-- the low word of each column of the product
abbrev pub columns_of : (a₀ a₁ b₀ b₁ : ℕ) → List ℕ
columns_of a₀ a₁ b₀ b₁ = clmul a₀ b₀ % 2 ^ 64 ∷ (clmul a₀ b₁ ⊕ clmul a₁ b₀) % 2 ^ 64 ∷ clmul a₁ b₁ % 2 ^ 64 ∷ []
