-- Two words, the low one first, as the number that they make. Assumes nothing.
use Rattle.std.specs.Prelude.{ℕ, ◌+◌, ◌*◌, ◌^◌}
use Rattle.word.specs.declared.Words.{Words}

abbrev pub value : Words → ℕ
value w = w.hi * 2 ^ 64 + w.lo
