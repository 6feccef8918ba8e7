-- Numbers as people read them: decimal, and signed fixed point. Assumes nothing.
use Rattle.std.specs.Prelude.{ℕ, zero, suc, ◌+◌, ◌/◌, ◌%◌, ◌^◌, List, [], ◌∷◌, ◌++◌, ℤ, pos, negsuc, nat_abs}
use Rattle.reporting.specs.Ascii.{ascii}

-- the character of n's last decimal digit
abbrev pub last_digit : ℕ → ℕ
last_digit n = 48 + n % 10

-- the last k decimal digits of n, zeros in front among them
unfoldable pub digits : ℕ → ℕ → List ℕ
digits zero n = []
digits (suc k) n = digits k (n / 10) ++ (last_digit n ∷ [])

-- how many decimal digits n has, none for 0; the first argument bounds the count, and n is enough
unfoldable pub leading : ℕ → ℕ → ℕ
leading zero n = 0
leading (suc k) zero = 0
leading (suc k) (suc n) = suc (leading k (suc n / 10))

-- how many digits are written for n: its last one for 0 too
abbrev pub digit_count : ℕ → ℕ
digit_count n = suc (leading n (n / 10))

-- n in decimal: no zero in front
unfoldable pub decimal : ℕ → List ℕ
decimal n = digits (digit_count n) n

-- a minus sign before a negative number, and nothing before another
abbrev pub sign : ℤ → List ℕ
sign (pos n) = []
sign (negsuc n) = ascii "-"

-- m · 10^-k: the whole part, a point, k digits
unfoldable pub in_places : (k m : ℕ) → List ℕ
in_places k m = decimal (m / 10 ^ k) ++ (ascii "." ++ digits k m)

-- z · 10^-k: the sign of z, whatever the whole part is
unfoldable pub fixed : ℕ → ℤ → List ℕ
fixed k z = sign z ++ in_places k (nat_abs z)
