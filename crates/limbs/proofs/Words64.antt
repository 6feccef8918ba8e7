-- The product of mul64 on words of 64 bits: three columns, each from its low word and the low word of its reverse. Assumes nothing.
use mathlib.Core.Path.{◌≡◌, sym, ap, ◌∙◌}
use mathlib.Core.List.{List, [], ◌∷◌}
use Prim.Native.Nat.{ℕ, ◌+◌, ◌*◌, ◌/◌, ◌%◌, ◌^◌, ◌<◌}
use native.Mathlib.Nat.{mod-eq_of_lt}
use Rattle.std.proofs.Common.{map, slice_index}
use lib.ListN.{get_or}
use lib.Pow.{pow_pos, shr_lt}
use Rattle.octets.specs.Xor.{◌⊕◌}
use Rattle.gf2.specs.Carryless.{rev}
use Rattle.gf2.specs.Words.{word_at}
use Rattle.octets.proofs.Xor.{zero_⊕}
use Rattle.gf2.proofs.Product.{◌⊗◌}
use Rattle.gf2.proofs.Reverse.{upper, column_⊗, column_⊕}
use Rattle.gf2.proofs.Columns.{columns, carried, words, Double, row, word_row, rejoin}
use Rattle.gf2.proofs.Limbs.{by_2_limbs}
use Rattle.gf2.proofs.Karatsuba.{karatsuba_words}
use Rattle.limbs.specs.Limbs64.{value_of, product_of, columns_of}

-- what the program makes of its three products
pub limbs_words : (a₀ a₁ b₀ b₁ : ℕ) {z₀ z₁ z₂ : ℕ} → z₀ ≡ a₀ ⊗ b₀ % 2 ^ 64 → z₁ ≡ a₁ ⊗ b₁ % 2 ^ 64 → z₂ ≡ (a₀ ⊕ a₁) ⊗ (b₀ ⊕ b₁) % 2 ^ 64
    → z₀ ∷ (z₂ ⊕ z₀ ⊕ z₁) ∷ z₁ ∷ [] ≡ columns_of a₀ a₁ b₀ b₁
limbs_words a₀ a₁ b₀ b₁ e₀ e₁ e₂ =
    let across = (λ i. e₂ i ⊕ e₀ i ⊕ e₁ i) ∙ karatsuba_words 64 a₀ a₁ b₀ b₁ in
    λ i. e₀ i ∷ across i ∷ e₁ i ∷ []

-- what the program makes of the products' low words z and of the reversed factors', reversed
abbrev pub assembled : (z u : List ℕ) → List ℕ
assembled z u = slice_index z 0 ∷ (slice_index u 0 / 2 ⊕ slice_index z 1) ∷ (slice_index u 1 / 2 ⊕ slice_index z 2) ∷ slice_index u 2 / 2 ∷ []

pub product_words : (a₀ a₁ b₀ b₁ : ℕ) → a₀ < 2 ^ 64 → a₁ < 2 ^ 64 → b₀ < 2 ^ 64 → b₁ < 2 ^ 64
    → assembled (columns_of a₀ a₁ b₀ b₁) (map (rev 64) (columns_of (rev 64 a₀) (rev 64 a₁) (rev 64 b₀) (rev 64 b₁)))
    ≡ product_of ((a₁ * 2 ^ 64 + a₀) ⊗ (b₁ * 2 ^ 64 + b₀))
unfolding upper
product_words a₀ a₁ b₀ b₁ ha₀ ha₁ hb₀ hb₁ =
    let A : ℕ = a₀ ⊗ b₀ in
    let K : ℕ = a₀ ⊗ b₁ ⊕ a₁ ⊗ b₀ in
    let B : ℕ = a₁ ⊗ b₁ in
    let N : ℕ = (a₁ * 2 ^ 64 + a₀) ⊗ (b₁ * 2 ^ 64 + b₀) in
    let all : List ℕ = A ∷ K ∷ B ∷ [] in
    let A-column = column_⊗ 64 a₀ b₀ ha₀ hb₀ in
    let K-column = column_⊕ (column_⊗ 64 a₀ b₁ ha₀ hb₁) (column_⊗ 64 a₁ b₀ ha₁ hb₀) in
    let B-column = column_⊗ 64 a₁ b₁ ha₁ hb₁ in
    let small : Double 64 all = (A-column.small, (K-column.small, (B-column.small, tt))) in
    let whole : N ≡ words 64 0 all = by_2_limbs 64 a₀ a₁ b₀ b₁ ha₀ hb₀ ∙ sym (zero_⊕ (columns 64 all)) ∙ carried 64 0 all (pow_pos 64) small in
    let at : (i : ℕ) → get_or (row 64 0 all) i 0 ≡ word_at 64 i N = λ i. sym (word_row 64 i 0 all (pow_pos 64) small) ∙ ap (word_at 64 i) (sym whole) in
    let w₀ = sym (zero_⊕ (A % 2 ^ 64)) ∙ at 0 in
    let w₁ = ap (λ x. x ⊕ K % 2 ^ 64) A-column.half ∙ at 1 in
    let w₂ = ap (λ x. x ⊕ B % 2 ^ 64) K-column.half ∙ at 2 in
    let w₃ = B-column.half ∙ at 3 in
    λ i. w₀ i ∷ w₁ i ∷ w₂ i ∷ w₃ i ∷ []

-- a number of 256 bits is the value of its words
pub value_product : (n : ℕ) → n < 2 ^ 256 → value_of (product_of n) ≡ n
value_product n l =
    ap (λ x. ((x * 2 ^ 64 + word_at 64 2 n) * 2 ^ 64 + word_at 64 1 n) * 2 ^ 64 + word_at 64 0 n)
    (mod-eq_of_lt (shr_lt 64 64 (shr_lt 128 64 (shr_lt 192 64 l)))) ∙ rejoin 64 3 n
