-- Bytes that others chose, shown so that they can act on no terminal and none can be taken for an escape. Assumes nothing.
use Rattle.std.specs.Prelude.{ℕ, ◌+◌, ◌/◌, ◌%◌, List, [], ◌∷◌, ◌++◌, Bool, false, cond, ltb, leb, eqb}
use Rattle.reporting.specs.Ascii.{ascii}

-- from 0x20 to 0x7E, and not the backslash
abbrev pub plain : ℕ → Bool
plain b = cond (eqb b 0x5C) false (cond (leb 0x20 b) (leb b 0x7E) false)

-- the character of a number below 16: 0 to 9, then a to f
abbrev pub hex_digit : ℕ → ℕ
hex_digit d = cond (ltb d 10) (48 + d) (87 + d)

-- \xNN
abbrev pub hex_escape : ℕ → List ℕ
hex_escape b = ascii "\\x" ++ (hex_digit (b / 16) ∷ hex_digit (b % 16) ∷ [])

-- a plain byte as itself, another as its escape
unfoldable pub shown : ℕ → List ℕ
shown b = cond (plain b) (b ∷ []) (hex_escape b)

unfoldable pub escaped : List ℕ → List ℕ
escaped [] = []
escaped (b ∷ s) = shown b ++ escaped s
