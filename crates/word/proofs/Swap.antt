-- A word's digits reversed by swapping neighbouring fields, of 1 digit, then of 2, of 4 and so on, at any width. Assumes nothing.
use Rattle.std.proofs.Common.{◌≡◌, ℕ, zero, suc, ◌+◌, ◌-◌, ◌*◌, ◌/◌, ◌%◌, ◌^◌, ◌<◌, sym, refl, ap, ◌∙◌, ap₂, lt_of_lt_of_le, le-add_right, lt_of_le_of_lt, add-zero, add_assoc, mul-le-mul_right, mod-lt, mod-eq_of_lt, zero-add, zero-mul, mul-one, add-one, arith, pow_pos, pow_mono, shr-shr}
use native.Mathlib.Nat.{mod-one}
use lib.Arith.{digits_div, digits_mod}
use lib.Pow.{split, mod-mod-pow, mod-pow-add, ones_lt}
use lib.Bits.{bit_and, bit_or, and_block, and_mask, and_le_r, and_zero_r, or_disjoint}
use Rattle.gf2.specs.Carryless.{rev}
use Rattle.gf2.proofs.Reverse.{rev_lt, rev_split}
use Rattle.word.proofs.Mask.{and_shl, apart}

-- the mask for m pairs of fields of k digits: the low field of each
abbrev pub evens : ℕ → ℕ → ℕ
evens k zero = zero
evens k (suc m) = evens k m * 2 ^ (k + k) + (2 ^ k - 1)

-- in each of the m low pairs of fields of k digits, the two swapped
pub swaps : ℕ → ℕ → ℕ → ℕ
swaps k zero y = zero
swaps k (suc m) y = swaps k m (y / 2 ^ (k + k)) * 2 ^ (k + k) + (y % 2 ^ k * 2 ^ k + y / 2 ^ k % 2 ^ k)

low_field : (k y e : ℕ) → bit_and y (e * 2 ^ (k + k) + (2 ^ k - 1)) ≡ bit_and (y / 2 ^ (k + k)) e * 2 ^ (k + k) + y % 2 ^ k
low_field k y e =
    ap (λ n. bit_and n (e * 2 ^ (k + k) + (2 ^ k - 1))) (sym (split y (k + k)))
    ∙ and_block (k + k) (y / 2 ^ (k + k)) e (y % 2 ^ (k + k)) (2 ^ k - 1) (mod-lt y (pow_pos (k + k))) (lt_of_lt_of_le (ones_lt k) (pow_mono (le-add_right k k)))
    ∙ ap (λ n. bit_and (y / 2 ^ (k + k)) e * 2 ^ (k + k) + n) (and_mask (y % 2 ^ (k + k)) k ∙ mod-mod-pow y k k)

shift_order : (k y : ℕ) → y / 2 ^ k / 2 ^ (k + k) ≡ y / 2 ^ (k + k) / 2 ^ k
shift_order k y = shr-shr y k (k + k) ∙ ap (λ e. y / 2 ^ e) (sym (add_assoc k k k)) ∙ sym (shr-shr y (k + k) k)

swaps_is : (k m y : ℕ) → bit_and y (evens k m) * 2 ^ k + bit_and (y / 2 ^ k) (evens k m) ≡ swaps k m y
unfolding swaps
swaps_is k zero y = ap₂ (λ p q. p * 2 ^ k + q) (and_zero_r y) (and_zero_r (y / 2 ^ k)) ∙ add-zero (0 * 2 ^ k) ∙ zero-mul (2 ^ k)
swaps_is k (suc m) y =
    let E : ℕ = evens k m in
    let Q : ℕ = 2 ^ (k + k) in
    let p : ℕ = 2 ^ k in
    let a : ℕ = bit_and (y / Q) E in
    let b : ℕ = bit_and (y / Q / p) E in
    let u : ℕ = y % p in
    let v : ℕ = y / p % p in
    let e : (a * Q + u) * p + (b * Q + v) ≡ (a * p + b) * Q + (u * p + v) = omega arith in
    ap₂ (λ r s. r * p + s) (low_field k y E) (low_field k (y / p) E ∙ ap (λ n. bit_and n E * Q + v) (shift_order k y))
    ∙ e ∙ ap (λ n. n * Q + (u * p + v)) (swaps_is k m (y / Q))

-- one step of the code, in a word of w digits
abbrev pub step : (w mask k y : ℕ) → ℕ
step w mask k y = bit_or (bit_and y mask * 2 ^ k % 2 ^ w) (bit_and (y / 2 ^ k) mask)

pub swapped : (w k m y : ℕ) → evens k m * 2 ^ k < 2 ^ w → bit_and (evens k m * 2 ^ k) (evens k m) ≡ 0 → step w (evens k m) k y ≡ swaps k m y
swapped w k m y h e =
    let E : ℕ = evens k m in
    let A : ℕ = bit_and y E * 2 ^ k in
    let B : ℕ = bit_and (y / 2 ^ k) E in
    ap (λ n. bit_or n B) (mod-eq_of_lt (lt_of_le_of_lt (mul-le-mul_right (2 ^ k) (and_le_r y E)) h))
    ∙ or_disjoint A B (ap (λ n. bit_and n B) (sym (and_shl k y E)) ∙ apart (y * 2 ^ k) (y / 2 ^ k) (E * 2 ^ k) E e)
    ∙ swaps_is k m y

twice : ℕ → ℕ
twice zero = zero
twice (suc m) = suc (suc (twice m))

-- each of the m low fields of k digits reversed
revs : ℕ → ℕ → ℕ → ℕ
revs k zero x = zero
revs k (suc m) x = revs k m (x / 2 ^ k) * 2 ^ k + rev k x

revs_digits : (m x : ℕ) → revs 1 m x ≡ x % 2 ^ m
unfolding revs rev
revs_digits zero x = sym (mod-one x)
revs_digits (suc m) x =
    ap₂ (λ p q. p * 2 + q) (revs_digits m (x / 2)) (add-zero (x % 2 * 1) ∙ mul-one (x % 2))
    ∙ sym (mod-pow-add x m 1) ∙ ap (λ e. x % 2 ^ e) (add-one m)

-- fields that are reversed, swapped in pairs, are reversed fields of twice the size
revs_swap : (k m x : ℕ) → swaps k m (revs k (twice m) x) ≡ revs (k + k) m x
unfolding revs twice swaps
revs_swap k zero x = refl
revs_swap k (suc m) x =
    let p : ℕ = 2 ^ k in
    let a : ℕ = revs k (twice m) (x / p / p) in
    let o₁ : ℕ = rev k (x / p) in
    let o₀ : ℕ = rev k x in
    let y : ℕ = (a * p + o₁) * p + o₀ in
    let hi : y / 2 ^ (k + k) ≡ a = sym (shr-shr y k k) ∙ ap (λ n. n / p) (digits_div (a * p + o₁) (rev_lt k x)) ∙ digits_div a (rev_lt k (x / p)) in
    let mid : y / p % p ≡ o₁ = ap (λ n. n % p) (digits_div (a * p + o₁) (rev_lt k x)) ∙ digits_mod a (rev_lt k (x / p)) in
    let low : y % p ≡ o₀ = digits_mod (a * p + o₁) (rev_lt k x) in
    (λ i. swaps k m (hi i) * 2 ^ (k + k) + (low i * p + mid i))
    ∙ ap₂ (λ n r. n * 2 ^ (k + k) + r) (revs_swap k m (x / p / p) ∙ ap (revs (k + k) m) (shr-shr x k k)) (sym (rev_split k k x))

revs_whole : (k x : ℕ) → revs k 1 x ≡ rev k x
unfolding revs
revs_whole k x = ap (λ n. n + rev k x) (zero-mul (2 ^ k)) ∙ zero-add (rev k x)

-- from digits to m fields of 32
five : (m x : ℕ)
    → swaps 16 m (swaps 8 (twice m) (swaps 4 (twice (twice m)) (swaps 2 (twice (twice (twice m))) (swaps 1 (twice (twice (twice (twice m)))) (revs 1 (twice (twice (twice (twice (twice m))))) x)))))
    ≡ revs 32 m x
five m x =
    ap (λ y. swaps 16 m (swaps 8 (twice m) (swaps 4 (twice (twice m)) (swaps 2 (twice (twice (twice m))) y)))) (revs_swap 1 (twice (twice (twice (twice m)))) x)
    ∙ ap (λ y. swaps 16 m (swaps 8 (twice m) (swaps 4 (twice (twice m)) y))) (revs_swap 2 (twice (twice (twice m))) x)
    ∙ ap (λ y. swaps 16 m (swaps 8 (twice m) y)) (revs_swap 4 (twice (twice m)) x)
    ∙ ap (swaps 16 m) (revs_swap 8 (twice m) x)
    ∙ revs_swap 16 m x

pub reversed32 : (x : ℕ) → x < 2 ^ 32 → swaps 16 1 (swaps 8 2 (swaps 4 4 (swaps 2 8 (swaps 1 16 x)))) ≡ rev 32 x
unfolding twice
reversed32 x h =
    ap (λ y. swaps 16 1 (swaps 8 2 (swaps 4 4 (swaps 2 8 (swaps 1 16 y))))) (sym (revs_digits 32 x ∙ mod-eq_of_lt h))
    ∙ five 1 x ∙ revs_whole 32 x

pub reversed64 : (x : ℕ) → x < 2 ^ 64 → swaps 32 1 (swaps 16 2 (swaps 8 4 (swaps 4 8 (swaps 2 16 (swaps 1 32 x))))) ≡ rev 64 x
unfolding twice
reversed64 x h =
    ap (λ y. swaps 32 1 (swaps 16 2 (swaps 8 4 (swaps 4 8 (swaps 2 16 (swaps 1 32 y)))))) (sym (revs_digits 64 x ∙ mod-eq_of_lt h))
    ∙ ap (swaps 32 1) (five 2 x) ∙ revs_swap 32 1 x ∙ revs_whole 64 x
