-- A buffer whose front is written piece by piece: the room behind what stands there, and one piece more. Assumes nothing.
use Rattle.std.specs.Prelude.{ℕ, ◌+◌, ◌≡◌, ◌≤◌, List, length}
use Rattle.octets.specs.Places.{Wrote}
use Rattle.report.specs.declared.writer.Writer.{Writer}

-- n bytes more have room
abbrev pub HasRoom : Writer → ℕ → Type 0
HasRoom w n = w.at + n ≤ length w.out.now

-- s, of at most n bytes, stands behind what stood there, in the same buffer
pub record Adds (n : ℕ) (w : Writer) (s : List ℕ) (w' : Writer) : Type 0 where
  pub same : w'.out.ghost_name ≡ w.out.ghost_name
  pub wrote : Wrote w.out.now w.at s w'.out.now w'.at
  pub short : length s ≤ n
