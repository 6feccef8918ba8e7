-- The four folds of mul32 on words of 32 bits: each takes the lowest word out and adds to the words three and four above it. Assumes nothing.
use Rattle.std.proofs.Common.{List, slice_index}
use mathlib.Core.Path.{◌≡◌, refl, sym, ap, ap₂, ◌∙◌}
use Prim.Native.Nat.{ℕ, ◌+◌, ◌*◌, ◌/◌, ◌%◌, ◌^◌, ◌<◌}
use native.Mathlib.Nat.{mod-lt, zero-add, add-zero}
use native.Mathlib.Omega.{arith}
use lib.Arith.{digits_lt}
use lib.Dec.{lit<}
use lib.Pow.{pow_pos, shr_lt, split, low, high}
use Rattle.octets.specs.Xor.{◌⊕◌}
use Rattle.gf2.specs.Polyval.{modulus, reduce, x_inv128}
use Rattle.octets.proofs.Xor.{zero_⊕, ⊕-comm, ⊕-lt, ⊕-block, ⊕-low}
use Rattle.gf2.proofs.Product.{◌⊗◌, ⊗-comm, ⊗-deg, shl_⊗}
use Rattle.gf2.proofs.Fold.{x_inv, fold, folds32}
use Rattle.word.specs.declared.Words.{Words}
use Rattle.word.specs.Words.{words_of}
use Rattle.limbs.specs.Limbs32.{tail32, words32_of}
use Rattle.limbs.proofs.Pair.{words_of_lem}

x_inv32 : x_inv 32 ≡ tail32 * 2 ^ 64
unfolding x_inv modulus tail32
x_inv32 = refl

-- the words of what a fold of v adds
abbrev lo : ℕ → ℕ
lo v = (tail32 ⊗ v) % 2 ^ 32

abbrev hi : ℕ → ℕ
hi v = (tail32 ⊗ v) / 2 ^ 32

lo_lt : (v : ℕ) → lo v < 2 ^ 32
lo_lt v = mod-lt (tail32 ⊗ v) (pow_pos 32)

hi_lt : (v : ℕ) → v < 2 ^ 32 → hi v < 2 ^ 32
unfolding tail32
hi_lt v h = shr_lt 32 32 (⊗-deg 32 32 tail32 v (lit< tt) h)

-- two words as one
pair : (p a b c : ℕ) → (a * p + b) * p + c ≡ a * (p * p) + (b * p + c)
pair p a b c = omega arith

fold_word : (R z₄ z₃ z₂ z₁ z₀ : ℕ) → z₄ < 2 ^ 32 → z₃ < 2 ^ 32 → z₂ < 2 ^ 32 → z₁ < 2 ^ 32 → z₀ < 2 ^ 32
    → fold 32 (((((R * 2 ^ 32 + z₄) * 2 ^ 32 + z₃) * 2 ^ 32 + z₂) * 2 ^ 32 + z₁) * 2 ^ 32 + z₀)
    ≡ (((R * 2 ^ 32 + (z₄ ⊕ hi z₀)) * 2 ^ 32 + (z₃ ⊕ lo z₀)) * 2 ^ 32 + z₂) * 2 ^ 32 + z₁
unfolding fold
fold_word R z₄ z₃ z₂ z₁ z₀ h₄ h₃ h₂ h₁ h₀ =
    let T : ℕ = tail32 ⊗ z₀ in
    let U : ℕ = (R * 2 ^ 32 + z₄) * 2 ^ 32 + z₃ in
    let s : ℕ = z₂ * 2 ^ 32 + z₁ in
    let above : U ⊕ T ≡ (R * 2 ^ 32 + (z₄ ⊕ hi z₀)) * 2 ^ 32 + (z₃ ⊕ lo z₀) =
    ap (λ x. U ⊕ x) (sym (split T 32)) ∙ ⊕-block 32 (R * 2 ^ 32 + z₄) (hi z₀) z₃ (lo z₀) h₃ (lo_lt z₀)
    ∙ ap (λ x. x * 2 ^ 32 + (z₃ ⊕ lo z₀)) (⊕-low 32 R z₄ (hi z₀) h₄ (hi_lt z₀ h₀)) in
    ap₂ ◌⊕◌ (ap₂ ◌⊗◌ x_inv32 (low ((U * 2 ^ 32 + z₂) * 2 ^ 32 + z₁) 32 h₀) ∙ shl_⊗ 64 tail32 z₀ ∙ sym (add-zero (T * 2 ^ 64)))
    (high ((U * 2 ^ 32 + z₂) * 2 ^ 32 + z₁) 32 h₀ ∙ pair (2 ^ 32) U z₂ z₁)
    ∙ ⊕-block 64 T U 0 s (pow_pos 64) (digits_lt h₂ h₁)
    ∙ ap₂ (λ x y. x * 2 ^ 64 + y) (⊕-comm T U ∙ above) (zero_⊕ s)
    ∙ sym (pair (2 ^ 32) ((R * 2 ^ 32 + (z₄ ⊕ hi z₀)) * 2 ^ 32 + (z₃ ⊕ lo z₀)) z₂ z₁)

-- the words of an unreduced product, the low one first
module _ (v₀ v₁ v₂ v₃ v₄ v₅ v₆ v₇ : ℕ) (h₀ : v₀ < 2 ^ 32) (h₁ : v₁ < 2 ^ 32) (h₂ : v₂ < 2 ^ 32) (h₃ : v₃ < 2 ^ 32)
    (h₄ : v₄ < 2 ^ 32) (h₅ : v₅ < 2 ^ 32) (h₆ : v₆ < 2 ^ 32) (h₇ : v₇ < 2 ^ 32) where
  -- the words as the program has them in the end
  abbrev w₃ : ℕ
  w₃ = v₃ ⊕ lo v₀

  abbrev w₄ : ℕ
  w₄ = v₄ ⊕ hi v₀ ⊕ lo v₁

  abbrev w₅ : ℕ
  w₅ = v₅ ⊕ hi v₁ ⊕ lo v₂

  abbrev w₆ : ℕ
  w₆ = v₆ ⊕ hi v₂ ⊕ lo w₃

  abbrev w₇ : ℕ
  w₇ = v₇ ⊕ hi w₃

  -- what a fold adds to a word keeps it a word
  with_hi : (v u : ℕ) → v < 2 ^ 32 → u < 2 ^ 32 → v ⊕ hi u < 2 ^ 32
  with_hi v u hv hu = ⊕-lt 32 v (hi u) hv (hi_lt u hu)

  with_lo : (v u : ℕ) → v < 2 ^ 32 → v ⊕ lo u < 2 ^ 32
  with_lo v u hv = ⊕-lt 32 v (lo u) hv (lo_lt u)

  w₃_lt : w₃ < 2 ^ 32
  w₃_lt = with_lo v₃ v₀ h₃

  w₄_lt : w₄ < 2 ^ 32
  w₄_lt = with_lo (v₄ ⊕ hi v₀) v₁ (with_hi v₄ v₀ h₄ h₀)

  w₅_lt : w₅ < 2 ^ 32
  w₅_lt = with_lo (v₅ ⊕ hi v₁) v₂ (with_hi v₅ v₁ h₅ h₁)

  abbrev N : ℕ
  N = ((((((v₇ * 2 ^ 32 + v₆) * 2 ^ 32 + v₅) * 2 ^ 32 + v₄) * 2 ^ 32 + v₃) * 2 ^ 32 + v₂) * 2 ^ 32 + v₁) * 2 ^ 32 + v₀

  first : fold 32 N ≡ (((((v₇ * 2 ^ 32 + v₆) * 2 ^ 32 + v₅) * 2 ^ 32 + (v₄ ⊕ hi v₀)) * 2 ^ 32 + w₃) * 2 ^ 32 + v₂) * 2 ^ 32 + v₁
  first = fold_word ((v₇ * 2 ^ 32 + v₆) * 2 ^ 32 + v₅) v₄ v₃ v₂ v₁ v₀ h₄ h₃ h₂ h₁ h₀

  second : fold 32 (fold 32 N) ≡ ((((v₇ * 2 ^ 32 + v₆) * 2 ^ 32 + (v₅ ⊕ hi v₁)) * 2 ^ 32 + w₄) * 2 ^ 32 + w₃) * 2 ^ 32 + v₂
  second = ap (fold 32) first ∙ fold_word (v₇ * 2 ^ 32 + v₆) v₅ (v₄ ⊕ hi v₀) w₃ v₂ v₁ h₅ (with_hi v₄ v₀ h₄ h₀) w₃_lt h₂ h₁

  third : fold 32 (fold 32 (fold 32 N)) ≡ (((v₇ * 2 ^ 32 + (v₆ ⊕ hi v₂)) * 2 ^ 32 + w₅) * 2 ^ 32 + w₄) * 2 ^ 32 + w₃
  third = ap (fold 32) second ∙ fold_word v₇ v₆ (v₅ ⊕ hi v₁) w₄ w₃ v₂ h₆ (with_hi v₅ v₁ h₅ h₁) w₄_lt w₃_lt h₂

  fourth : fold 32 (fold 32 (fold 32 (fold 32 N))) ≡ ((w₇ * 2 ^ 32 + w₆) * 2 ^ 32 + w₅) * 2 ^ 32 + w₄
  fourth =
      ap (fold 32) (third ∙ ap (λ x. (((x * 2 ^ 32 + (v₆ ⊕ hi v₂)) * 2 ^ 32 + w₅) * 2 ^ 32 + w₄) * 2 ^ 32 + w₃) (sym (zero-add v₇)))
      ∙ fold_word 0 v₇ (v₆ ⊕ hi v₂) w₅ w₄ w₃ h₇ (with_hi v₆ v₂ h₆ h₂) w₅_lt w₄_lt w₃_lt
      ∙ ap (λ x. ((x * 2 ^ 32 + w₆) * 2 ^ 32 + w₅) * 2 ^ 32 + w₄) (zero-add w₇)

  reduced : (w₇ * 2 ^ 32 + w₆) * 2 ^ 64 + (w₅ * 2 ^ 32 + w₄) ≡ reduce (N ⊗ x_inv128)
  reduced =
      sym (pair (2 ^ 32) (w₇ * 2 ^ 32 + w₆) w₅ w₄) ∙ sym fourth
      ∙ folds32 N (digits_lt (digits_lt (digits_lt (digits_lt (digits_lt (digits_lt (digits_lt h₇ h₆) h₅) h₄) h₃) h₂) h₁) h₀) ∙ ap reduce (⊗-comm x_inv128 N)

  -- what the program makes of the words a, b, c and d that the four folds add
  pub folded : {a b c d : List ℕ} {l h : ℕ}
      → a ≡ words32_of (tail32 ⊗ v₀) → b ≡ words32_of (tail32 ⊗ v₁) → c ≡ words32_of (tail32 ⊗ v₂) → d ≡ words32_of (tail32 ⊗ (v₃ ⊕ slice_index a 0))
      → l ≡ (v₅ ⊕ slice_index b 1 ⊕ slice_index c 0) * 2 ^ 32 + (v₄ ⊕ slice_index a 1 ⊕ slice_index b 0)
      → h ≡ (v₇ ⊕ slice_index d 1) * 2 ^ 32 + (v₆ ⊕ slice_index c 1 ⊕ slice_index d 0)
      → ◌≡◌ {A = Words} (record { lo = l; hi = h }) (words_of (reduce (N ⊗ x_inv128)))
  folded ea eb ec ed el eh =
      let d_words = ed ∙ ap (λ w. words32_of (tail32 ⊗ (v₃ ⊕ slice_index w 0))) ea in
      let lows = el ∙ (λ i. (v₅ ⊕ slice_index (eb i) 1 ⊕ slice_index (ec i) 0) * 2 ^ 32 + (v₄ ⊕ slice_index (ea i) 1 ⊕ slice_index (eb i) 0)) in
      let highs = eh ∙ (λ i. (v₇ ⊕ slice_index (d_words i) 1) * 2 ^ 32 + (v₆ ⊕ slice_index (ec i) 1 ⊕ slice_index (d_words i) 0)) in
      (λ i. record { lo = lows i; hi = highs i })
      ∙ words_of_lem (reduce (N ⊗ x_inv128)) (digits_lt w₅_lt w₄_lt) reduced
