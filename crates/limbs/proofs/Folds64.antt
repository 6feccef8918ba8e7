-- The two folds of mul64 on words of 64 bits: each takes the lowest word out and adds to the two above it. Assumes nothing.
use mathlib.Core.Path.{◌≡◌, sym, ap, ap₂, ◌∙◌}
use Prim.Native.Nat.{ℕ, ◌+◌, ◌*◌, ◌/◌, ◌%◌, ◌^◌, ◌<◌}
use native.Mathlib.Nat.{mod-lt}
use lib.Arith.{digits_lt}
use lib.Dec.{lit<}
use lib.Pow.{pow_pos, shr_lt, split, low, high}
use Rattle.octets.specs.Xor.{◌⊕◌}
use Rattle.gf2.specs.Polyval.{reduce, x_inv64, x_inv128}
use Rattle.octets.proofs.Xor.{⊕-comm, ⊕-lt, ⊕-block, ⊕-low}
use Rattle.gf2.proofs.Product.{◌⊗◌, ⊗-comm, ⊗-deg}
use Rattle.gf2.proofs.Fold.{fold, x_inv_64, folds64}
use Rattle.word.specs.declared.Words.{Words}
use Rattle.word.specs.Words.{words_of}
use Rattle.limbs.proofs.Pair.{words_of_lem}

-- one fold: the lowest word goes out, and its product by x^-64 comes in above
fold_word : (U v₁ v₀ : ℕ) → v₁ < 2 ^ 64 → v₀ < 2 ^ 64
    → fold 64 ((U * 2 ^ 64 + v₁) * 2 ^ 64 + v₀) ≡ (U ⊕ (x_inv64 ⊗ v₀) / 2 ^ 64) * 2 ^ 64 + (v₁ ⊕ (x_inv64 ⊗ v₀) % 2 ^ 64)
unfolding fold
fold_word U v₁ v₀ h₁ h₀ =
    let N : ℕ = U * 2 ^ 64 + v₁ in
    let X : ℕ = x_inv64 ⊗ v₀ in
    ap₂ ◌⊕◌ (ap₂ ◌⊗◌ x_inv_64 (low N 64 h₀)) (high N 64 h₀) ∙ ⊕-comm X N ∙ ap (λ x. N ⊕ x) (sym (split X 64))
    ∙ ⊕-block 64 U (X / 2 ^ 64) v₁ (X % 2 ^ 64) h₁ (mod-lt X (pow_pos 64))

high_lt : (v : ℕ) → v < 2 ^ 64 → (x_inv64 ⊗ v) / 2 ^ 64 < 2 ^ 64
unfolding x_inv64
high_lt v h = shr_lt 64 64 (⊗-deg 64 64 x_inv64 v (lit< tt) h)

-- the words of an unreduced product, the low one first
module _ (v₀ v₁ v₂ v₃ : ℕ) (h₀ : v₀ < 2 ^ 64) (h₁ : v₁ < 2 ^ 64) (h₂ : v₂ < 2 ^ 64) (h₃ : v₃ < 2 ^ 64) where
  -- the words after the first fold
  abbrev w₁ : ℕ
  w₁ = v₁ ⊕ (x_inv64 ⊗ v₀) % 2 ^ 64

  abbrev w₂ : ℕ
  w₂ = v₂ ⊕ (x_inv64 ⊗ v₀) / 2 ^ 64

  abbrev N : ℕ
  N = ((v₃ * 2 ^ 64 + v₂) * 2 ^ 64 + v₁) * 2 ^ 64 + v₀

  w₁_lt : w₁ < 2 ^ 64
  w₁_lt = ⊕-lt 64 v₁ ((x_inv64 ⊗ v₀) % 2 ^ 64) h₁ (mod-lt (x_inv64 ⊗ v₀) (pow_pos 64))

  w₂_lt : w₂ < 2 ^ 64
  w₂_lt = ⊕-lt 64 v₂ ((x_inv64 ⊗ v₀) / 2 ^ 64) h₂ (high_lt v₀ h₀)

  reduced_lo : w₂ ⊕ (x_inv64 ⊗ w₁) % 2 ^ 64 < 2 ^ 64
  reduced_lo = ⊕-lt 64 w₂ ((x_inv64 ⊗ w₁) % 2 ^ 64) w₂_lt (mod-lt (x_inv64 ⊗ w₁) (pow_pos 64))

  reduced : (v₃ ⊕ (x_inv64 ⊗ w₁) / 2 ^ 64) * 2 ^ 64 + (w₂ ⊕ (x_inv64 ⊗ w₁) % 2 ^ 64) ≡ reduce (N ⊗ x_inv128)
  reduced =
      sym (fold_word v₃ w₂ w₁ w₂_lt w₁_lt)
      ∙ ap (λ x. fold 64 (x * 2 ^ 64 + w₁)) (sym (⊕-low 64 v₃ v₂ ((x_inv64 ⊗ v₀) / 2 ^ 64) h₂ (high_lt v₀ h₀)))
      ∙ ap (fold 64) (sym (fold_word (v₃ * 2 ^ 64 + v₂) v₁ v₀ h₁ h₀))
      ∙ folds64 N (digits_lt (digits_lt (digits_lt h₃ h₂) h₁) h₀) ∙ ap reduce (⊗-comm x_inv128 N)

  -- what the program makes of the words a and b that the two folds add
  pub folded : {a b : Words} → a ≡ words_of (x_inv64 ⊗ v₀) → b ≡ words_of (x_inv64 ⊗ (v₁ ⊕ a.lo))
      → ◌≡◌ {A = Words} (record { lo = v₂ ⊕ a.hi ⊕ b.lo; hi = v₃ ⊕ b.hi }) (words_of (reduce (N ⊗ x_inv128)))
  folded ea eb =
      let b-words = eb ∙ ap (λ w. words_of (x_inv64 ⊗ (v₁ ⊕ w.lo))) ea in
      (λ i. record { lo = v₂ ⊕ (ea i).hi ⊕ (b-words i).lo; hi = v₃ ⊕ (b-words i).hi })
      ∙ words_of_lem (reduce (N ⊗ x_inv128)) reduced_lo reduced
