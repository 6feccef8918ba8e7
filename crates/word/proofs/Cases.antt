-- What the crate's definition comes to. Assumes nothing.
use Rattle.std.proofs.Common.{◌≡◌, ℕ, ◌+◌, ◌*◌, ◌/◌, ◌%◌, ◌^◌, ◌<◌, arith}
use Rattle.word.specs.Words.{words_of}
use Rattle.word.specs.declared.Words.{Words}

-- the low word first, and the rest of the number in the high one
pub words_of_parts : (lo hi : ℕ) → lo < 2 ^ 64 → ◌≡◌ {A = Words} (words_of (hi * 2 ^ 64 + lo)) (record { lo = lo; hi = hi })
words_of_parts lo hi small =
    let first : (hi * 2 ^ 64 + lo) % 2 ^ 64 ≡ lo = omega arith in
    let second : (hi * 2 ^ 64 + lo) / 2 ^ 64 ≡ hi = omega arith in
    λ i. record { lo = first i; hi = second i }
