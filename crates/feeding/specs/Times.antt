-- An element multiplied n times by H, and the dots that it takes by halving n (document 01, "Feeding and joining"). Assumes nothing.
use Rattle.std.specs.Prelude.{ℕ, zero, suc, ◌+◌, ◌-◌, ◌/◌, ◌%◌}
use Rattle.gf2.specs.Polyval.{dot}

-- "multiplied by H through dot n times"
unfoldable pub times : (h n a : ℕ) → ℕ
times h zero a = a
times h (suc n) a = times h n (dot a h)

-- the sum of f over the binary digits of n. k counts those to go; it stops as soon as n has run out.
unfoldable pub over_digits : (f : ℕ → ℕ) (k n : ℕ) → ℕ
over_digits f zero n = 0
over_digits f (suc k) zero = 0
over_digits f (suc k) (suc n) = f (suc n % 2) + over_digits f k (suc n / 2)

-- n has at most n digits: how many of them are 1, and how many there are
unfoldable pub ones : ℕ → ℕ
ones n = over_digits (λ d. d) n n

unfoldable pub width : ℕ → ℕ
width n = over_digits (λ d. 1) n n

-- a dot for each digit that is 1, and a squaring for each digit but the last
unfoldable pub dots_of : ℕ → ℕ
dots_of n = ones n + (width n - 1)
