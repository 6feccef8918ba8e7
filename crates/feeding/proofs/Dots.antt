-- How many dots halving takes: digit by digit, and at most 127 for a word of 64. Assumes nothing.
use mathlib.Core.Path.{◌≡◌, refl, ap, ◌∙◌}
use Prim.Native.Nat.{ℕ, zero, suc, zero-le, ◌+◌, ◌-◌, ◌*◌, ◌/◌, ◌%◌, ◌^◌, ◌≤◌, ◌<◌}
use native.Mathlib.Nat.{pow-suc}
use native.Mathlib.Omega.{arith}
use lib.Dec.{lit≤}
use Rattle.feeding.specs.Times.{over_digits, ones, width, dots_of}

-- any count of digits that is enough gives the same
enough : (f : ℕ → ℕ) (i j n : ℕ) → n ≤ i → n ≤ j → over_digits f i n ≡ over_digits f j n
unfolding over_digits
enough f zero zero n a b = refl
enough f zero (suc j) zero a b = refl
enough f zero (suc j) (suc n) a b = absurd (omega arith)
enough f (suc i) zero zero a b = refl
enough f (suc i) zero (suc n) a b = absurd (omega arith)
enough f (suc i) (suc j) zero a b = refl
enough f (suc i) (suc j) (suc n) a b = ap (λ x. f (suc n % 2) + x) (enough f i j (suc n / 2) (omega arith) (omega arith))

-- the lowest digit, and the rest
next : (f : ℕ → ℕ) (n : ℕ) → over_digits f (suc n) (suc n) ≡ f (suc n % 2) + over_digits f (suc n / 2) (suc n / 2)
unfolding over_digits
next f n = ap (λ x. f (suc n % 2) + x) (enough f n (suc n / 2) (suc n / 2) (omega arith) (omega arith))

ones_next : (n : ℕ) → ones (suc n) ≡ suc n % 2 + ones (suc n / 2)
unfolding ones
ones_next n = next (λ d. d) n

width_next : (n : ℕ) → width (suc n) ≡ 1 + width (suc n / 2)
unfolding width
width_next n = next (λ d. 1) n

-- the dots of the lowest digit, and of the rest
pub dots_more : (k : ℕ) → 1 < k → dots_of k ≡ k % 2 + (1 + dots_of (k / 2))
unfolding dots_of
dots_more zero l = absurd (omega arith)
dots_more (suc n) l =
    let m : ℕ = suc n / 2 in
    let rest : m ≡ suc (m - 1) = omega arith in
    let w : width m ≡ 1 + width (suc (m - 1) / 2) = ap width rest ∙ width_next (m - 1) in
    omega (arith, ones_next n, width_next n, w)

pub dots_one : dots_of 1 ≡ 1
unfolding dots_of ones width over_digits
dots_one = refl

pub dots_none : dots_of 0 ≡ 0
unfolding dots_of ones width over_digits
dots_none = refl

-- a number below 2^j has at most j digits, and f is at most 1 on each
at_most : (f : ℕ → ℕ) → ((d : ℕ) → d < 2 → f d ≤ 1) → (j k n : ℕ) → n < 2 ^ j → over_digits f k n ≤ j
unfolding over_digits
at_most f small j zero n l = zero-le
at_most f small j (suc k) zero l = zero-le
at_most f small zero (suc k) (suc n) l = absurd (omega arith)
at_most f small (suc j) (suc k) (suc n) l =
    let h : suc n < 2 ^ j * 2 = rw pow-suc at l in
    let rest : over_digits f k (suc n / 2) ≤ j = at_most f small j k (suc n / 2) (omega arith) in
    omega (arith, small (suc n % 2) (omega arith))

-- "at most 128 dots"; the last squaring is skipped, so at most 127
pub dots_bound : (n : ℕ) → n < 2 ^ 64 → dots_of n ≤ 127
unfolding dots_of ones width
dots_bound n l = omega (arith, at_most (λ d. d) (λ d h. omega arith) 64 n n l, at_most (λ d. 1) (λ d h. lit≤ tt) 64 n n l)
