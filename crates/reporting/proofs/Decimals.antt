-- Decimal digits, and how many there are: the bound on their count is no matter once it is enough. Assumes nothing.
use Prim.Native.Nat.{ℕ, zero, suc, ◌+◌, ◌-◌, ◌/◌, ◌^◌, ◌≤◌, ◌<◌}
use mathlib.Core.Path.{◌≡◌, refl, ap, ◌∙◌}
use mathlib.Core.List.{[], ◌∷◌, ◌++◌}
use native.Mathlib.Nat.{pow-suc, one-le-pow}
use native.Mathlib.Omega.{arith}
use lib.Dec.{lit≤}
use lib.ListN.{length, length-append}
use Rattle.std.proofs.Common.{max, ◌*◌}
use Rattle.reporting.specs.Numbers.{last_digit, digits, leading, digit_count}

-- the last k digits

pub digits_none : (k n : ℕ) → k ≡ 0 → [] ≡ digits k n
unfolding digits
digits_none zero n e = refl
digits_none (suc k) n e = absurd (omega arith)

pub digits_more : (k n : ℕ) → 1 ≤ k → digits (k - 1) (n / 10) ++ (last_digit n ∷ []) ≡ digits k n
unfolding digits
digits_more zero n h = absurd (omega arith)
digits_more (suc k) n h =
    let e : suc k - 1 ≡ k = omega arith in
    ap (λ (j : ℕ). digits j (n / 10) ++ (last_digit n ∷ [])) e

pub digits_length : (k n : ℕ) → length (digits k n) ≡ k
unfolding digits
digits_length zero n = refl
digits_length (suc k) n = length-append (digits k (n / 10)) (last_digit n ∷ []) ∙ ap (λ (j : ℕ). j + 1) (digits_length k (n / 10)) ∙ omega arith

-- how many digits

-- a number below 10^k has at most k digits
few : (k j n : ℕ) → n < 10 ^ k → leading j n ≤ k
unfolding leading
few k zero n h = omega arith
few k (suc j) zero h = omega arith
few zero (suc j) (suc n) h = absurd (omega arith)
few (suc k) (suc j) (suc n) h =
    let p = pow-suc 10 k in
    let l = few k j (suc n / 10) (omega arith) in
    omega arith

-- where k is not 0, 0 among them
pub count_few : (k n : ℕ) → n < 10 ^ suc k → digit_count n ≤ suc k
count_few k n h =
    let p = pow-suc 10 k in
    let l = few k n (n / 10) (omega arith) in
    omega arith

-- a number from 10^k on has more than k, whatever the bound on their count is
many : (k j n : ℕ) → 10 ^ k ≤ n → n ≤ j → suc k ≤ leading j n
unfolding leading
many k zero n h b = absurd (omega (arith, one-le-pow k 10 (lit≤ tt)))
many k (suc j) zero h b = absurd (omega (arith, one-le-pow k 10 (lit≤ tt)))
many zero (suc j) (suc n) h b = omega arith
many (suc k) (suc j) (suc n) h b =
    let p = pow-suc 10 k in
    let l = many k j (suc n / 10) (omega arith) (omega arith) in
    omega arith

most : (k n : ℕ) → 10 ^ k ≤ n → suc k ≤ digit_count n
most zero n h = omega arith
most (suc k) n h =
    let p = pow-suc 10 k in
    let l = many k n (n / 10) (omega arith) (omega arith) in
    omega arith

-- the count of digits by the powers of 10 around a number, for 0 those around 1
pub count_is : (k n m : ℕ) → m ≡ max n 1 → 10 ^ k ≤ m → m < 10 * 10 ^ k → suc k ≡ digit_count n
unfolding leading
count_is zero zero m e l h = refl
count_is (suc k) zero m e l h = absurd (omega (arith, pow-suc 10 k, one-le-pow k 10 (lit≤ tt)))
count_is k (suc n) m e l h =
    let p = pow-suc 10 k in
    let few = count_few k (suc n) (omega arith) in
    let many = most k (suc n) (omega arith) in
    omega arith
