-- A byte string as blocks of 16 bytes, each a number (document 01, "Feeding and joining"). Assumes nothing.
use Rattle.std.specs.Prelude.{ℕ, zero, suc, ◌+◌, ◌/◌, List, [], ◌∷◌, length, take, drop}
use Rattle.octets.specs.Numbers.{number}

-- n blocks from the front. Bytes that are missing are zeros: they add nothing to the number.
unfoldable pub blocks_n : ℕ → List ℕ → List ℕ
blocks_n zero s = []
blocks_n (suc n) s = number (take 16 s) ∷ blocks_n n (drop 16 s)

-- all of s, the last short block filled with zeros; an empty string has no block
unfoldable pub blocks : List ℕ → List ℕ
blocks s = blocks_n ((length s + 15) / 16) s
