-- What it means that a line can act on no terminal and hides no other line. Assumes nothing.
use Rattle.std.specs.Prelude.{ℕ, ◌≤◌, ◌≡◌, List, [], ◌∷◌, ◌++◌}
use Rattle.reporting.specs.Ascii.{ascii}

unfoldable pub Each : List ℕ → Type 0
Each [] = Unit {0}
Each (b ∷ s) = ((0x20 ≤ b) × (b ≤ 0x7E)) × Each s

-- every byte is one from 0x20 to 0x7E
pub record Printable (s : List ℕ) : Type 0 where
  pub each : Each s

-- one line: printable bytes, and one newline behind them
pub record OneLine (l : List ℕ) : Type 0 where
  pub body : List ℕ
  pub is : l ≡ body ++ ascii "\n"
  pub printable : Printable body
