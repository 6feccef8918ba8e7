-- Signed 32-bit fields: two's complement. Assumes nothing.
use Rattle.std.specs.Prelude.{ℕ, ◌-◌, ◌^◌, cond, ℤ, pos, negsuc, ltb}

-- 32 bits as a signed number: from 2^31 on, the number less 2^32. (`negsuc n` is -1 - n.)
abbrev pub signed : ℕ → ℤ
signed n = cond (ltb n (2 ^ 31)) (pos n) (negsuc (2 ^ 32 - 1 - n))

-- a signed number as 32 bits: a negative one with 2^32 added
abbrev pub bits_of : ℤ → ℕ
bits_of (pos n) = n
bits_of (negsuc n) = 2 ^ 32 - 1 - n
