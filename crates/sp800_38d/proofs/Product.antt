-- SP 800-38D's block product is the field's: X • Y = dot(X, mulX(Y)), on blocks whose leftmost bit is the most significant digit. Assumes nothing.
use mathlib.Core.Path.{◌≡◌, sym, ap, ap₂, ◌∙◌, subst}
use Prim.Native.Nat.{ℕ, zero, suc, ◌*◌, ◌/◌, ◌%◌, ◌^◌, ◌<◌, ◌≤◌}
use native.Mathlib.Nat.{pow-suc, mod-lt, mod-eq_of_lt, zero-lt-suc, lt_of_le_of_lt}
use native.Mathlib.Numerals.{one-add}
use native.Mathlib.Omega.{arith}
use lib.Dec.{eqb→eq, lit<}
use lib.Pow.{pow_pos, mod-pow-add}
use Rattle.octets.specs.Xor.{◌⊕◌}
use Rattle.gf2.specs.Carryless.{clmul, clmul_n}
use Rattle.gf2.specs.Remainder.{times_x, remainder, remainder_n}
use Rattle.gf2.specs.Polyval.{modulus, mulx, reduce, x_inv128, dot}
use Rattle.octets.proofs.Xor.{⊕-above, ⊕-assoc, ⊕-comm, ⊕-self, ⊕-zero, ⊕-lt, ⊕-twice, digits}
use Rattle.octets.proofs.Digit.{digit_lt}
use Rattle.gf2.proofs.Product.{◌⊗◌, two_⊗, pow_⊗, bit_⊗}
use Rattle.gf2.proofs.Remainder.{remainder_small}
use Rattle.gf2.proofs.Ring.{⊙-comm, ⊙-assoc, ⊙-swap, ⊙-⊕, ⊕-⊙, ⊙-zero, zero_⊙, one_⊙_small, ⊙-reduce, reduce_⊙, times_x_⊙, ⊙-lt}
use Rattle.gf2.proofs.Dot.{polyval, ◌⊙◌, dot_⊙}
use Rattle.gf2.proofs.Cases.{x_inv128_power}
use Rattle.sp800_38d.specs.Ghash.{R, shifted, product_n, ◌•◌}

-- R is x^-1
R-two : R ⊙ 2 ≡ 1
unfolding R clmul clmul_n remainder remainder_n times_x modulus ◌⊕◌
R-two = eqb→eq (R ⊙ 2) 1 tt

R-lt : R < 2 ^ 128
unfolding R
R-lt = lit< tt

-- a digit times an element
digit_⊙ : (n v : ℕ) → v < 2 ^ 128 → (n % 2) ⊙ v ≡ n % 2 * v
digit_⊙ n v l = ap reduce (bit_⊗ (n % 2) (mod-lt n (zero-lt-suc 1)) v) ∙ remainder_small modulus 128 (n % 2 * v) (digit_lt n 128 v l)

-- the shift to the right divides by x
shifted_⊙ : (v : ℕ) → v < 2 ^ 128 → shifted v ≡ R ⊙ v
unfolding shifted
shifted_⊙ v l =
    let half : ℕ = v / 2 in
    let down : R ⊙ (half * 2) ≡ half =
    ap (λ x. R ⊙ x) (sym (two_⊗ half)) ∙ sym (⊙-reduce polyval R (2 ⊗ half)) ∙ sym (⊙-assoc polyval R 2 half) ∙ ap (λ x. x ⊙ half) R-two
    ∙ one_⊙_small polyval half (lt_of_le_of_lt (half_le_self v) l) in
    sym (ap (λ x. R ⊙ x) (sym (digits v)) ∙ ⊙-⊕ polyval R (half * 2) (v % 2) ∙ ap₂ ◌⊕◌ down (⊙-comm polyval R (v % 2) ∙ digit_⊙ v R R-lt) ∙ ⊕-comm half (v % 2 * R))
  where
    half_le_self : (n : ℕ) → n / 2 ≤ n
    half_le_self n = omega arith

shifted_lt : (v : ℕ) → v < 2 ^ 128 → shifted v < 2 ^ 128
shifted_lt v l = subst (λ n. n < 2 ^ 128) (sym (shifted_⊙ v l)) (⊙-lt polyval R v)

-- a power of x more
pow_next : (n y : ℕ) → 2 ^ suc n ⊙ y ≡ 2 ⊙ (2 ^ n ⊙ y)
pow_next n y = ap (λ t. t ⊙ y) (pow-suc 2 n ∙ sym (two_⊗ (2 ^ n))) ∙ sym (reduce_⊙ polyval (2 ⊗ 2 ^ n) y) ∙ ⊙-assoc polyval 2 (2 ^ n) y

-- x times x^-1
up : (v : ℕ) → v < 2 ^ 128 → 2 ⊙ (R ⊙ v) ≡ v
up v l = sym (⊙-assoc polyval 2 R v) ∙ ap (λ x. x ⊙ v) (⊙-comm polyval 2 R ∙ R-two) ∙ one_⊙_small polyval v l

-- the n digits of x that are to go: algorithm 1 adds them up, divided by x^(n-1)
digits_product : (n x z v : ℕ) → v < 2 ^ 128 → 2 ^ n ⊙ (product_n n x z v ⊕ z) ≡ 2 ⊙ ((x % 2 ^ n) ⊙ v)
unfolding product_n
digits_product zero x z v l =
    let none : x % 1 ≡ 0 = omega arith in
    ap (λ y. 1 ⊙ y) (⊕-self z) ∙ ⊙-zero polyval 1 ∙ sym (ap (λ y. 2 ⊙ (y ⊙ v)) none ∙ ap (λ y. 2 ⊙ y) (zero_⊙ polyval v) ∙ ⊙-zero polyval 2)
digits_product (suc n) x z v l =
    let b : ℕ = x / 2 ^ n % 2 in
    let c : ℕ = b * v in
    let w : ℕ = shifted v in
    let p : ℕ = product_n n x (c ⊕ z) w in
    let m : ℕ = x % 2 ^ n in
    let apart : p ⊕ z ≡ (p ⊕ (c ⊕ z)) ⊕ c = sym (⊕-assoc p (c ⊕ z) c ∙ ap (λ y. p ⊕ y) (⊕-comm (c ⊕ z) c ∙ ⊕-twice c z)) in
    let first : 2 ^ n ⊙ (p ⊕ (c ⊕ z)) ≡ m ⊙ v =
    digits_product n x (c ⊕ z) w (shifted_lt v l) ∙ ⊙-swap polyval 2 m w ∙ ap (λ y. m ⊙ y) (ap (λ y. 2 ⊙ y) (shifted_⊙ v l) ∙ up v l) in
    let second : 2 ^ n ⊙ c ≡ (b * 2 ^ n) ⊙ v =
    ap (λ y. 2 ^ n ⊙ y) (sym (digit_⊙ (x / 2 ^ n) v l)) ∙ sym (⊙-assoc polyval (2 ^ n) b v) ∙ ap (λ y. reduce y ⊙ v) (pow_⊗ n b) ∙ reduce_⊙ polyval (b * 2 ^ n) v in
    let all : m ⊕ b * 2 ^ n ≡ x % 2 ^ suc n =
    ⊕-comm m (b * 2 ^ n) ∙ ⊕-above b n m (mod-lt x (pow_pos n)) ∙ sym (mod-pow-add x 1 n) ∙ ap (λ j. x % 2 ^ j) (one-add n) in
    pow_next n (p ⊕ z) ∙ ap (λ y. 2 ⊙ (2 ^ n ⊙ y)) apart
    ∙ ap (λ y. 2 ⊙ y) (⊙-⊕ polyval (2 ^ n) (p ⊕ (c ⊕ z)) c ∙ ap₂ ◌⊕◌ first second ∙ sym (⊕-⊙ polyval m (b * 2 ^ n) v) ∙ ap (λ y. y ⊙ v) all)

product_n_lt : (n x z v : ℕ) → z < 2 ^ 128 → v < 2 ^ 128 → product_n n x z v < 2 ^ 128
unfolding product_n
product_n_lt zero x z v lz lv = lz
product_n_lt (suc n) x z v lz lv =
    product_n_lt n x ((x / 2 ^ n % 2 * v) ⊕ z) (shifted v) (⊕-lt 128 (x / 2 ^ n % 2 * v) z (digit_lt (x / 2 ^ n) 128 v lv) lz) (shifted_lt v lv)

-- X • Y is dot(X, mulX(Y))
pub product_is : (x y : ℕ) → x < 2 ^ 128 → y < 2 ^ 128 → x • y ≡ dot x (mulx y)
unfolding ◌•◌
product_is x y lx ly =
    let p : ℕ = product_n 128 x 0 y in
    let whole : 2 ^ 128 ⊙ p ≡ 2 ⊙ (x ⊙ y) =
    ap (λ t. 2 ^ 128 ⊙ t) (sym (⊕-zero p)) ∙ digits_product 128 x 0 y ly ∙ ap (λ t. 2 ⊙ (t ⊙ y)) (mod-eq_of_lt lx) in
    sym (one_⊙_small polyval p (product_n_lt 128 x 0 y (pow_pos 128) ly)) ∙ ap (λ t. t ⊙ p) (sym x_inv128_power) ∙ ⊙-assoc polyval x_inv128 (2 ^ 128) p
    ∙ ap (λ t. x_inv128 ⊙ t) (whole ∙ ⊙-swap polyval 2 x y ∙ ap (λ t. x ⊙ t) (sym (times_x_⊙ polyval y ly))) ∙ ⊙-comm polyval x_inv128 (x ⊙ mulx y) ∙ sym (dot_⊙ x (mulx y))
