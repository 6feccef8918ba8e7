-- Two words and the number that they make. Assumes nothing.
use mathlib.Core.Path.{◌≡◌, sym, ap, ◌∙◌}
use Prim.Native.Nat.{ℕ, ◌+◌, ◌*◌, ◌/◌, ◌%◌, ◌^◌, ◌<◌}
use lib.Arith.{digits_lt}
use lib.Pow.{high, low}
use Rattle.gf2.specs.Carryless.{clmul}
use Rattle.gf2.proofs.Product.{⊗-lt}
use Rattle.word.specs.declared.Words.{Words}
use Rattle.word.specs.Words.{words_of}
use Rattle.limbs.specs.Value.{value}

-- both words fit
pub record Sized (w : Words) : Type 0 where
  pub lo : w.lo < 2 ^ 64
  pub hi : w.hi < 2 ^ 64

pub product_lt : (a b : Words) → Sized a → Sized b → clmul (value a) (value b) < 2 ^ 256
product_lt a b s t = ⊗-lt 128 128 (value a) (value b) (digits_lt s.hi s.lo) (digits_lt t.hi t.lo)

-- words that make a number are its words
pub words_of_lem : (n : ℕ) {l h : ℕ} → l < 2 ^ 64 → h * 2 ^ 64 + l ≡ n → ◌≡◌ {A = Words} (record { lo = l; hi = h }) (words_of n)
words_of_lem n {l} {h} hl e =
    let lo : l ≡ n % 2 ^ 64 = sym (low h 64 hl) ∙ ap (λ x. x % 2 ^ 64) e in
    let hi : h ≡ n / 2 ^ 64 = sym (high h 64 hl) ∙ ap (λ x. x / 2 ^ 64) e in
    λ i. record { lo = lo i; hi = hi i }
