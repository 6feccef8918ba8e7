-- A number of up to 128 bits as two words, the low one first. Assumes nothing.
use Rattle.std.specs.Prelude.{ℕ, ◌/◌, ◌%◌, ◌^◌}
use Rattle.word.specs.declared.Words.{Words}

abbrev pub words_of : ℕ → Words
words_of n = record { lo = n % 2 ^ 64; hi = n / 2 ^ 64 }
