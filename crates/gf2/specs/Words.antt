-- A number as words of w bits, the lowest first. Assumes nothing.
use Rattle.std.specs.Prelude.{ℕ, zero, suc, ◌/◌, ◌%◌, ◌^◌}

-- word i of n
abbrev pub word_at : (w i n : ℕ) → ℕ
word_at w zero n = n % 2 ^ w
word_at w (suc i) n = word_at w i (n / 2 ^ w)
