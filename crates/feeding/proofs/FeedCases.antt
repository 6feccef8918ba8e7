-- What each feed absorbs and keeps, at each side of a block's end, for any key, element held and route (document 01, "Feeding and joining"). Assumes nothing.
use mathlib.Core.Path.{◌≡◌, refl}
use mathlib.Core.List.{List, [], ◌∷◌, ◌++◌}
use Prim.Native.Nat.{ℕ}
use lib.ListN.{replicate}
use Rattle.octets.specs.Numbers.{number, bytes_of}
use Rattle.rfc8452.specs.Blocks.{blocks_n, blocks}
use Rattle.field.specs.declared.field_element.FieldElement.{FieldElement}
use Rattle.field.specs.declared.rf.Counted.{Counted}
use Rattle.field.specs.Element.{value}
use Rattle.feeding.specs.declared.Route.{Route}
use Rattle.feeding.specs.declared.ExpandedKey.{ExpandedKey}
use Rattle.feeding.specs.declared.Hash.{Hash}
use Rattle.feeding.specs.Answers.{FedAnswer, FinishAnswer}
use Rattle.feeding.specs.Formulas.{in_groups, alone}
use Rattle.feeding.specs.Routes.{absorb_on}
use Rattle.feeding.specs.Record.{zero_hash}
use Rattle.feeding.specs.Feeds.{Feed, Whole, Padded, Piece, feed_by, Accepted, fed_all, to_blocks, stands_for, fed_string}
use Rattle.feeding.specs.Calls.{whole_of, padded_of, pieced, piece_of, finish_of, reset_of}

-- fifteen bytes, and their number; the sixteenth byte 16 makes `full` of it
abbrev fifteen : List ℕ
fifteen = 1 ∷ 2 ∷ 3 ∷ 4 ∷ 5 ∷ 6 ∷ 7 ∷ 8 ∷ 9 ∷ 10 ∷ 11 ∷ 12 ∷ 13 ∷ 14 ∷ 15 ∷ []

abbrev short : ℕ
short = 0x0f0e0d0c0b0a090807060504030201

abbrev full : ℕ
full = 0x100f0e0d0c0b0a090807060504030201

module _ (route : Route) (key : ExpandedKey) (acc : FieldElement) where
  -- a record that claims `count` of sixteen stored bytes
  abbrev storing : (pending : List ℕ) (count : ℕ) → Hash
  storing pending count = record { key = key; acc = acc; pending = pending; count = count }

  -- with stale bytes alone
  abbrev empty : Hash
  empty = storing (replicate 16 9) 0

  -- done: the blocks absorbed in groups of these sizes, and the sixteen bytes stored
  abbrev absorbing : (sizes xs : List ℕ) → Counted
  absorbing sizes xs = absorb_on route sizes key (record { element = acc; multiplies = 0 }) xs

  abbrev fed : Counted → (pending : List ℕ) (count : ℕ) → FedAnswer
  fed made pending count = record { answer = 0; hash = record { key = key; acc = made.element; pending = pending; count = count }; multiplies = made.multiplies }

  abbrev refused : (answer : ℕ) → FedAnswer
  refused answer = record { answer = answer; hash = zero_hash; multiplies = 0 }

  -- "Whole-block feed takes multiples of 16"
  pub whole_0 : whole_of route empty [] ≡ fed (absorbing in_groups []) (replicate 16 0) 0
  unfolding blocks blocks_n
  whole_0 = refl

  pub whole_1 : whole_of route empty (1 ∷ []) ≡ refused 3
  whole_1 = refl

  pub whole_15 : whole_of route empty fifteen ≡ refused 3
  whole_15 = refl

  pub whole_16 : whole_of route empty (fifteen ++ 16 ∷ []) ≡ fed (absorbing in_groups (full ∷ [])) (replicate 16 0) 0
  unfolding blocks blocks_n number
  whole_16 = refl

  pub whole_17 : whole_of route empty (fifteen ++ 16 ∷ 17 ∷ []) ≡ refused 3
  whole_17 = refl

  pub whole_32 : whole_of route empty (fifteen ++ 16 ∷ fifteen ++ 0 ∷ []) ≡ fed (absorbing in_groups (full ∷ short ∷ [])) (replicate 16 0) 0
  unfolding blocks blocks_n number
  whole_32 = refl

  -- "Padded feed fills the last short block of that call with zeros; an empty feed adds no block"
  pub padded_0 : padded_of route empty [] ≡ fed (absorbing in_groups []) (replicate 16 0) 0
  unfolding blocks blocks_n
  padded_0 = refl

  pub padded_1 : padded_of route empty (1 ∷ []) ≡ fed (absorbing in_groups (1 ∷ [])) (replicate 16 0) 0
  unfolding blocks blocks_n number
  padded_1 = refl

  pub padded_15 : padded_of route empty fifteen ≡ fed (absorbing in_groups (short ∷ [])) (replicate 16 0) 0
  unfolding blocks blocks_n number
  padded_15 = refl

  pub padded_16 : padded_of route empty (fifteen ++ 16 ∷ []) ≡ fed (absorbing in_groups (full ∷ [])) (replicate 16 0) 0
  unfolding blocks blocks_n number
  padded_16 = refl

  pub padded_17 : padded_of route empty (fifteen ++ 16 ∷ 17 ∷ []) ≡ fed (absorbing in_groups (full ∷ 17 ∷ [])) (replicate 16 0) 0
  unfolding blocks blocks_n number
  padded_17 = refl

  -- "Piece feed keeps up to 15 bytes for the next call"
  pub piece_0 : piece_of route empty [] ≡ fed (absorbing alone []) (replicate 16 0) 0
  unfolding pieced blocks blocks_n
  piece_0 = refl

  pub piece_1 : piece_of route empty (1 ∷ []) ≡ fed (absorbing alone []) (1 ∷ replicate 15 0) 1
  unfolding pieced blocks blocks_n
  piece_1 = refl

  pub piece_15 : piece_of route empty fifteen ≡ fed (absorbing alone []) (fifteen ++ 0 ∷ []) 15
  unfolding pieced blocks blocks_n
  piece_15 = refl

  pub piece_16 : piece_of route empty (fifteen ++ 16 ∷ []) ≡ fed (absorbing alone (full ∷ [])) (replicate 16 0) 0
  unfolding pieced blocks blocks_n number
  piece_16 = refl

  pub piece_17 : piece_of route empty (fifteen ++ 16 ∷ 17 ∷ []) ≡ fed (absorbing alone (full ∷ [])) (17 ∷ replicate 15 0) 1
  unfolding pieced blocks blocks_n number
  piece_17 = refl

  -- fifteen bytes pending, and a stale one: they come first, and a block is full with one more
  abbrev nearly : Hash
  nearly = storing (fifteen ++ 9 ∷ []) 15

  pub nearly_0 : piece_of route nearly [] ≡ fed (absorbing alone []) (fifteen ++ 0 ∷ []) 15
  unfolding pieced blocks blocks_n
  nearly_0 = refl

  pub nearly_1 : piece_of route nearly (16 ∷ []) ≡ fed (absorbing alone (full ∷ [])) (replicate 16 0) 0
  unfolding pieced blocks blocks_n number
  nearly_1 = refl

  pub nearly_17 : piece_of route nearly (16 ∷ fifteen ++ 16 ∷ []) ≡ fed (absorbing alone (full ∷ full ∷ [])) (replicate 16 0) 0
  unfolding pieced blocks blocks_n number
  nearly_17 = refl

  -- "finish fills them with zeros", adds no block where nothing is pending, and reads no byte past the count
  abbrev tag : Counted → FinishAnswer
  tag made = record { answer = 0; tag = bytes_of 16 (value made.element); multiplies = made.multiplies }

  pub finish_0 : finish_of route empty ≡ tag (absorbing alone [])
  unfolding blocks blocks_n
  finish_0 = refl

  pub finish_1 : finish_of route (storing (1 ∷ replicate 15 9) 1) ≡ tag (absorbing alone (1 ∷ []))
  unfolding blocks blocks_n number
  finish_1 = refl

  pub finish_15 : finish_of route nearly ≡ tag (absorbing alone (short ∷ []))
  unfolding blocks blocks_n number
  finish_15 = refl

  -- "Reset keeps the key and clears the rest"
  pub reset_15 : reset_of nearly
      ≡ record { answer = 0; hash = record { key = key; acc = record { lo = 0; hi = 0 }; pending = replicate 16 0; count = 0 }; multiplies = 0 }
  reset_15 = refl

-- a feed is its call; a list is fed from the front, each call to the record that the one before made, and is accepted where every call answers 0
module _ (route : Route) (h : Hash) (s : List ℕ) where
  pub fed_by : (feed_by (Whole route s) h ≡ whole_of route h s) × (feed_by (Padded route s) h ≡ padded_of route h s) × (feed_by (Piece route s) h ≡ piece_of route h s)
  fed_by = (refl, refl, refl)

pub fed_in_order : (f g : Feed) (h : Hash) → (fed_all h [] ≡ h) × (fed_all h (f ∷ g ∷ []) ≡ (feed_by g (feed_by f h).hash).hash)
fed_in_order f g h = (refl, refl)

pub all_accepted : (f g : Feed) (h : Hash) → (feed_by f h).answer ≡ 0 → (feed_by g (feed_by f h).hash).answer ≡ 0 → Accepted h (f ∷ g ∷ [])
all_accepted f g h e k = (e, (k, tt))

pub each_accepted : (f g : Feed) (h : Hash) → Accepted h (f ∷ g ∷ []) → ((feed_by f h).answer ≡ 0) × ((feed_by g (feed_by f h).hash).answer ≡ 0)
each_accepted f g h e = (e.0, e.1.0)

-- the bytes that feeds stand for: a padded one ends with its block, and no other is filled
pub filled_up : (to_blocks [] ≡ []) × (to_blocks (1 ∷ []) ≡ 1 ∷ replicate 15 0) × (to_blocks fifteen ≡ fifteen ++ 0 ∷ [])
    × (to_blocks (fifteen ++ 16 ∷ []) ≡ fifteen ++ 16 ∷ []) × (to_blocks (fifteen ++ 16 ∷ 17 ∷ []) ≡ fifteen ++ 16 ∷ 17 ∷ replicate 15 0)
filled_up = (refl, refl, refl, refl, refl)

pub stood_for : (r : Route) (s : List ℕ) → (stands_for (Whole r s) ≡ s) × (stands_for (Padded r s) ≡ to_blocks s) × (stands_for (Piece r s) ≡ s)
stood_for r s = (refl, refl, refl)

pub spelled_in_order : (f g : Feed) → (fed_string [] ≡ []) × (fed_string (f ∷ g ∷ []) ≡ stands_for f ++ (stands_for g ++ []))
spelled_in_order f g = (refl, refl)
