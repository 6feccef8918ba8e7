-- Where reading begins. Assumes nothing.
use Rattle.std.specs.Prelude.{ℕ, Bool, false}
use Rattle.protocol.specs.declared.input.Reading.{Reading}

-- where reading stands: the bytes of the piece that were not looked at yet, the characters that the line has so far, whether it is whole,
-- and whether there are no more lines
pub record Standing : Type 0 where
  pub from : ℕ
  pub to : ℕ
  pub have : ℕ
  pub whole : Bool
  pub over : Bool

-- between two lines nothing of the next one is there, and the input is not known to be over
abbrev pub between_lines : Reading → Standing
between_lines r = record { from = r.from; to = r.to; have = 0; whole = false; over = false }

-- nothing was read yet: no piece, no line, and the input is not over
abbrev pub nothing_read : Standing
nothing_read = record { from = 0; to = 0; have = 0; whole = false; over = false }
