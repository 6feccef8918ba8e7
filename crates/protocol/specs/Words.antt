-- What the words of a line say: docs/PROTOCOL.md. Assumes nothing.
use Rattle.std.specs.Prelude.{ℕ, ◌%◌, ◌^◌, List, [], ◌∷◌, reverse, get_or, replicate}
use Rattle.octets.specs.Numbers.{number}
use Rattle.octets.specs.Strings.{copied}
use Rattle.protocol.specs.declared.words.Slot.{Slot}
use Rattle.protocol.specs.declared.words.Words.{Words}
use Rattle.protocol.specs.Parts.{part_of}

-- a word's slot as three numbers: where its bytes begin and end in the arena, and its number
abbrev pub three_of : Slot → List ℕ
three_of s = s.from ∷ s.to ∷ s.number ∷ []

-- number k of the slot of word i. Where there is no such word, they are 0
abbrev pub slot_at : Words → (i k : ℕ) → ℕ
slot_at w i k = get_or (three_of (get_or w.slots i (record { from = 0; to = 0; number = 0 }))) k 0

-- the bytes of the words from i to j
abbrev pub span_of : Words → (arena : List ℕ) (i j : ℕ) → List ℕ
span_of w arena i j = part_of arena (slot_at w i 0) (slot_at w j 1)

-- the first 16 bytes of a word, zeros where it has fewer
abbrev pub block_of : List ℕ → List ℕ
block_of s = copied s (replicate 16 0)

-- the number that bytes spell, the highest first: its low 64 bits
unfoldable pub spelled_high_first : List ℕ → ℕ
spelled_high_first s = number (reverse s) % 2 ^ 64
