-- What GHASH leaves in a C caller's cells. Assumes nothing.
use Rattle.std.specs.Prelude.{ℕ, ◌≡◌, List, ◌++◌}
use Rattle.ghash.specs.declared.parts.Ghash.{Ghash}
use Rattle.ghash.specs.Calls.{Started}
use Rattle.record.specs.Bytes.{element_bytes, element_at}
use Rattle.khumbuseal.specs.Cells.{stored}

-- a GHASH record as bytes: POLYVAL's key for GHASH's, then the sum
abbrev pub ghash_bytes : Ghash → List ℕ
ghash_bytes g = element_bytes g.key ++ element_bytes g.acc

-- and the record that bytes spell
abbrev pub ghash_in : List ℕ → Ghash
ghash_in b = record { key = element_at 0 b; acc = element_at 16 b }

-- start: its result, and the record's bytes after it
pub record Begins (made : Started) (before : List ℕ) (r : ℕ) (after : List ℕ) : Type 0 where
  pub answer : r ≡ made.answer
  pub memory : after ≡ stored made.answer (ghash_bytes made.ghash) before
