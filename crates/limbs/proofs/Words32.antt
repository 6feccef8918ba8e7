-- The product of mul32 on words of 32 bits: seven columns, each from its low word and the low word of its reverse. Assumes nothing.
use mathlib.Core.Path.{◌≡◌, sym, ap, ◌∙◌}
use mathlib.Core.List.{List, [], ◌∷◌}
use Prim.Native.Nat.{ℕ, ◌+◌, ◌*◌, ◌/◌, ◌%◌, ◌^◌, ◌<◌}
use native.Mathlib.Nat.{mod-eq_of_lt}
use native.Mathlib.Omega.{arith}
use Rattle.std.proofs.Common.{map, slice_index}
use Rattle.gf2.specs.Carryless.{rev}
use lib.ListN.{get_or}
use lib.Pow.{pow_pos, shr_lt}
use Rattle.octets.specs.Xor.{◌⊕◌}
use Rattle.gf2.specs.Carryless.{clmul}
use Rattle.gf2.specs.Words.{word_at}
use Rattle.octets.proofs.Xor.{zero_⊕}
use Rattle.gf2.proofs.Product.{◌⊗◌}
use Rattle.gf2.proofs.Reverse.{upper, column_⊗, column_⊕}
use Rattle.gf2.proofs.Columns.{columns, carried, words, Double, row, word_row, rejoin}
use Rattle.gf2.proofs.Limbs.{by_4_limbs}
use Rattle.gf2.proofs.Karatsuba.{karatsuba_words, beside_words, middle_words}
use Rattle.word.specs.declared.Words.{Words}
use Rattle.limbs.specs.Value.{value}
use Rattle.limbs.specs.Limbs32.{columns_of_pairs, columns_of_words, value_of32, product_of32}

pub record Sized32 (w₀ w₁ w₂ w₃ : ℕ) : Type 0 where
  pub w0 : w₀ < 2 ^ 32
  pub w1 : w₁ < 2 ^ 32
  pub w2 : w₂ < 2 ^ 32
  pub w3 : w₃ < 2 ^ 32

-- what the program makes of its three products
pub limbs_words : (a₀ a₁ b₀ b₁ : ℕ) {z₀ z₁ z₂ : ℕ} → z₀ ≡ a₀ ⊗ b₀ % 2 ^ 32 → z₁ ≡ a₁ ⊗ b₁ % 2 ^ 32 → z₂ ≡ (a₀ ⊕ a₁) ⊗ (b₀ ⊕ b₁) % 2 ^ 32
    → z₀ ∷ (z₂ ⊕ z₀ ⊕ z₁) ∷ z₁ ∷ [] ≡ columns_of_pairs a₀ a₁ b₀ b₁
limbs_words a₀ a₁ b₀ b₁ e₀ e₁ e₂ =
    let across = (λ i. e₂ i ⊕ e₀ i ⊕ e₁ i) ∙ karatsuba_words 32 a₀ a₁ b₀ b₁ in
    λ i. e₀ i ∷ across i ∷ e₁ i ∷ []

-- what the program makes of the products of the low pairs, of the high pairs and of their sums
abbrev combined : (l h m : List ℕ) → List ℕ
combined l h m =
    slice_index l 0
    ∷ slice_index l 1
    ∷ (slice_index l 2 ⊕ slice_index l 0 ⊕ slice_index h 0 ⊕ slice_index m 0)
    ∷ (slice_index l 1 ⊕ slice_index h 1 ⊕ slice_index m 1)
    ∷ (slice_index h 0 ⊕ slice_index l 2 ⊕ slice_index h 2 ⊕ slice_index m 2)
    ∷ slice_index h 1
    ∷ slice_index h 2
    ∷ []

pub columns_words : (a₀ a₁ a₂ a₃ b₀ b₁ b₂ b₃ : ℕ) {l h m : List ℕ}
    → l ≡ columns_of_pairs a₀ a₁ b₀ b₁
    → h ≡ columns_of_pairs a₂ a₃ b₂ b₃
    → m ≡ columns_of_pairs (a₀ ⊕ a₂) (a₁ ⊕ a₃) (b₀ ⊕ b₂) (b₁ ⊕ b₃)
    → combined l h m ≡ columns_of_words a₀ a₁ a₂ a₃ b₀ b₁ b₂ b₃
columns_words a₀ a₁ a₂ a₃ b₀ b₁ b₂ b₃ el eh em =
    (λ i. combined (el i) (eh i) (em i))
    ∙ (λ i. clmul a₀ b₀ % 2 ^ 32
    ∷ (clmul a₀ b₁ ⊕ clmul a₁ b₀) % 2 ^ 32
    ∷ beside_words 32 (clmul a₁ b₁) a₀ b₀ a₂ b₂ i
    ∷ middle_words 32 a₀ a₁ a₂ a₃ b₀ b₁ b₂ b₃ i
    ∷ beside_words 32 (clmul a₂ b₂) a₁ b₁ a₃ b₃ i
    ∷ (clmul a₂ b₃ ⊕ clmul a₃ b₂) % 2 ^ 32
    ∷ clmul a₃ b₃ % 2 ^ 32
    ∷ [])

-- what the program makes of the columns' low words z and of the reversed factors', reversed
abbrev pub assembled : (z u : List ℕ) → List ℕ
assembled z u =
    slice_index z 0
    ∷ (slice_index u 0 / 2 ⊕ slice_index z 1)
    ∷ (slice_index u 1 / 2 ⊕ slice_index z 2)
    ∷ (slice_index u 2 / 2 ⊕ slice_index z 3)
    ∷ (slice_index u 3 / 2 ⊕ slice_index z 4)
    ∷ (slice_index u 4 / 2 ⊕ slice_index z 5)
    ∷ (slice_index u 5 / 2 ⊕ slice_index z 6)
    ∷ slice_index u 6 / 2
    ∷ []

abbrev joined : (w₀ w₁ w₂ w₃ : ℕ) → ℕ
joined w₀ w₁ w₂ w₃ = ((w₃ * 2 ^ 32 + w₂) * 2 ^ 32 + w₁) * 2 ^ 32 + w₀

pub product_words : (a₀ a₁ a₂ a₃ b₀ b₁ b₂ b₃ : ℕ) → Sized32 a₀ a₁ a₂ a₃ → Sized32 b₀ b₁ b₂ b₃
    → assembled (columns_of_words a₀ a₁ a₂ a₃ b₀ b₁ b₂ b₃)
    (map (rev 32) (columns_of_words (rev 32 a₀) (rev 32 a₁) (rev 32 a₂) (rev 32 a₃) (rev 32 b₀) (rev 32 b₁) (rev 32 b₂) (rev 32 b₃)))
    ≡ product_of32 (joined a₀ a₁ a₂ a₃ ⊗ joined b₀ b₁ b₂ b₃)
unfolding upper
product_words a₀ a₁ a₂ a₃ b₀ b₁ b₂ b₃ s t =
    let P₀ : ℕ = a₀ ⊗ b₀ in
    let P₁ : ℕ = a₀ ⊗ b₁ ⊕ a₁ ⊗ b₀ in
    let P₂ : ℕ = a₀ ⊗ b₂ ⊕ a₁ ⊗ b₁ ⊕ a₂ ⊗ b₀ in
    let P₃ : ℕ = a₀ ⊗ b₃ ⊕ a₁ ⊗ b₂ ⊕ a₂ ⊗ b₁ ⊕ a₃ ⊗ b₀ in
    let P₄ : ℕ = a₁ ⊗ b₃ ⊕ a₂ ⊗ b₂ ⊕ a₃ ⊗ b₁ in
    let P₅ : ℕ = a₂ ⊗ b₃ ⊕ a₃ ⊗ b₂ in
    let P₆ : ℕ = a₃ ⊗ b₃ in
    let N : ℕ = joined a₀ a₁ a₂ a₃ ⊗ joined b₀ b₁ b₂ b₃ in
    let all : List ℕ = P₀ ∷ P₁ ∷ P₂ ∷ P₃ ∷ P₄ ∷ P₅ ∷ P₆ ∷ [] in
    let c₀ = column_⊗ 32 a₀ b₀ s.w0 t.w0 in
    let c₁ = column_⊕ (column_⊗ 32 a₀ b₁ s.w0 t.w1) (column_⊗ 32 a₁ b₀ s.w1 t.w0) in
    let c₂ = column_⊕ (column_⊕ (column_⊗ 32 a₀ b₂ s.w0 t.w2) (column_⊗ 32 a₁ b₁ s.w1 t.w1)) (column_⊗ 32 a₂ b₀ s.w2 t.w0) in
    let c₃ = column_⊕ (column_⊕ (column_⊕ (column_⊗ 32 a₀ b₃ s.w0 t.w3) (column_⊗ 32 a₁ b₂ s.w1 t.w2)) (column_⊗ 32 a₂ b₁ s.w2 t.w1)) (column_⊗ 32 a₃ b₀ s.w3 t.w0) in
    let c₄ = column_⊕ (column_⊕ (column_⊗ 32 a₁ b₃ s.w1 t.w3) (column_⊗ 32 a₂ b₂ s.w2 t.w2)) (column_⊗ 32 a₃ b₁ s.w3 t.w1) in
    let c₅ = column_⊕ (column_⊗ 32 a₂ b₃ s.w2 t.w3) (column_⊗ 32 a₃ b₂ s.w3 t.w2) in
    let c₆ = column_⊗ 32 a₃ b₃ s.w3 t.w3 in
    let small : Double 32 all = (c₀.small, (c₁.small, (c₂.small, (c₃.small, (c₄.small, (c₅.small, (c₆.small, tt))))))) in
    let whole : N ≡ words 32 0 all =
    by_4_limbs 32 a₀ a₁ a₂ a₃ b₀ b₁ b₂ b₃ s.w0 s.w1 s.w2 t.w0 t.w1 t.w2 ∙ sym (zero_⊕ (columns 32 all)) ∙ carried 32 0 all (pow_pos 32) small in
    let at : (i : ℕ) → get_or (row 32 0 all) i 0 ≡ word_at 32 i N = λ i. sym (word_row 32 i 0 all (pow_pos 32) small) ∙ ap (word_at 32 i) (sym whole) in
    let v₀ = sym (zero_⊕ (P₀ % 2 ^ 32)) ∙ at 0 in
    let v₁ = ap (λ x. x ⊕ P₁ % 2 ^ 32) c₀.half ∙ at 1 in
    let v₂ = ap (λ x. x ⊕ P₂ % 2 ^ 32) c₁.half ∙ at 2 in
    let v₃ = ap (λ x. x ⊕ P₃ % 2 ^ 32) c₂.half ∙ at 3 in
    let v₄ = ap (λ x. x ⊕ P₄ % 2 ^ 32) c₃.half ∙ at 4 in
    let v₅ = ap (λ x. x ⊕ P₅ % 2 ^ 32) c₄.half ∙ at 5 in
    let v₆ = ap (λ x. x ⊕ P₆ % 2 ^ 32) c₅.half ∙ at 6 in
    let v₇ = c₆.half ∙ at 7 in
    λ i. v₀ i ∷ v₁ i ∷ v₂ i ∷ v₃ i ∷ v₄ i ∷ v₅ i ∷ v₆ i ∷ v₇ i ∷ []

pub quarters_value : (e : Words) → joined (e.lo % 2 ^ 32) (e.lo / 2 ^ 32) (e.hi % 2 ^ 32) (e.hi / 2 ^ 32) ≡ value e
quarters_value e = cut e.lo e.hi
  where
    cut : (l h : ℕ) → ((h / 2 ^ 32 * 2 ^ 32 + h % 2 ^ 32) * 2 ^ 32 + l / 2 ^ 32) * 2 ^ 32 + l % 2 ^ 32 ≡ h * 2 ^ 64 + l
    cut l h = omega arith

-- a number of 256 bits is the value of its words
pub value_product : (n : ℕ) → n < 2 ^ 256 → value_of32 (product_of32 n) ≡ n
value_product n l =
    ap (λ x. ((((((x * 2 ^ 32 + word_at 32 6 n) * 2 ^ 32 + word_at 32 5 n) * 2 ^ 32 + word_at 32 4 n) * 2 ^ 32 + word_at 32 3 n) * 2 ^ 32 + word_at 32 2 n) * 2 ^ 32 + word_at 32 1 n) * 2 ^ 32 + word_at 32 0 n)
    (mod-eq_of_lt (shr_lt 32 32 (shr_lt 64 32 (shr_lt 96 32 (shr_lt 128 32 (shr_lt 160 32 (shr_lt 192 32 (shr_lt 224 32 l))))))))
    ∙ rejoin 32 7 n
