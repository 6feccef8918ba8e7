-- What a call said, as the program that makes it puts it together. Assumes nothing.
use Rattle.std.specs.Prelude.{ℕ, List, replicate}
use Rattle.octets.specs.Strings.{copied}
use Rattle.protocol.specs.declared.said.Said.{Said}

-- up to five numbers, zeros behind them, in the first alternative of the form, and no bytes
abbrev pub numbers_of : List ℕ → Said
numbers_of s = record { kind = 0; bytes = 0; numbers = copied s (replicate 5 0) }

-- the same in another alternative
abbrev pub in_kind : Said → ℕ → Said
in_kind s kind = record { kind = kind; bytes = s.bytes; numbers = s.numbers }

-- the same with so many bytes of the space
abbrev pub with_bytes : Said → ℕ → Said
with_bytes s bytes = record { kind = s.kind; bytes = bytes; numbers = s.numbers }
