-- A list of feeds of every kind, on any mix of routes, and the message that they spell. Assumes nothing.
use Rattle.std.specs.Prelude.{ℕ, ◌-◌, ◌%◌, ◌≡◌, List, [], ◌∷◌, ◌++◌, length, replicate}
use Rattle.answer.specs.Answers.{done}
use Rattle.feeding.specs.declared.Route.{Route}
use Rattle.feeding.specs.declared.Hash.{Hash}
use Rattle.feeding.specs.Answers.{FedAnswer}
use Rattle.feeding.specs.Calls.{whole_of, padded_of, piece_of}

-- one call: whole blocks, padded, or a piece
pub data Feed : Type 0 where
  Whole : Route → List ℕ → Feed
  Padded : Route → List ℕ → Feed
  Piece : Route → List ℕ → Feed

abbrev pub feed_by : Feed → Hash → FedAnswer
feed_by (Whole route s) h = whole_of route h s
feed_by (Padded route s) h = padded_of route h s
feed_by (Piece route s) h = piece_of route h s

-- every call of the list is answered with 0
abbrev pub Accepted : Hash → List Feed → Type 0
Accepted h [] = Unit {0}
Accepted h (f ∷ fs) = ((feed_by f h).answer ≡ done) × Accepted (feed_by f h).hash fs

-- the record after the list
abbrev pub fed_all : Hash → List Feed → Hash
fed_all h [] = h
fed_all h (f ∷ fs) = fed_all (feed_by f h).hash fs

-- the bytes that a feed stands for: a padded one ends with its block
abbrev pub to_blocks : List ℕ → List ℕ
to_blocks s = s ++ replicate ((16 - length s % 16) % 16) 0

abbrev pub stands_for : Feed → List ℕ
stands_for (Whole route s) = s
stands_for (Padded route s) = to_blocks s
stands_for (Piece route s) = s

abbrev pub fed_string : List Feed → List ℕ
fed_string [] = []
fed_string (f ∷ fs) = stands_for f ++ fed_string fs
