-- Joining, in cases (document 01, "Feeding and joining"). Assumes nothing.
use mathlib.Core.Path.{◌≡◌, refl}
use mathlib.Core.List.{List, [], ◌∷◌, ◌++◌}
use Prim.Native.Nat.{ℕ, ◌+◌, ◌*◌, ◌^◌}
use lib.ListN.{replicate}
use Rattle.octets.specs.Xor.{◌⊕◌}
use Rattle.gf2.specs.Polyval.{dot}
use Rattle.field.specs.declared.field_element.FieldElement.{FieldElement}
use Rattle.field.specs.Element.{value, element}
use Rattle.feeding.specs.declared.Power.{Power}
use Rattle.feeding.specs.declared.ExpandedKey.{ExpandedKey}
use Rattle.feeding.specs.declared.Route.{Route}
use Rattle.feeding.specs.Answers.{JoinAnswer}
use Rattle.feeding.specs.Key.{powers_from, key_of}
use Rattle.feeding.specs.declared.Hash.{Hash}
use Rattle.feeding.specs.Record.{zero_hash}
use Rattle.feeding.specs.Times.{times, over_digits, ones, width, dots_of}
use Rattle.feeding.specs.Calls.{start_of, whole_of}
use Rattle.feeding.specs.Join.{join_of}
use Rattle.feeding.specs.Parts.{Part, Both, message, hash_of}

abbrev keyed : (h count : ℕ) → Hash
keyed h count = record { key = key_of h; acc = element 0; pending = replicate 16 0; count = count }

-- a pending byte in either record, and unlike keys
pub first_pending : join_of (keyed 1 1) (keyed 1 0) 5 ≡ record { answer = 14; hash = zero_hash; dots = 0 }
first_pending = refl

pub second_pending : join_of (keyed 1 0) (keyed 1 1) 5 ≡ record { answer = 14; hash = zero_hash; dots = 0 }
second_pending = refl

pub unlike_keys : join_of (keyed 1 0) (keyed 2 0) 5 ≡ record { answer = 14; hash = zero_hash; dots = 0 }
unfolding powers_from
unlike_keys = refl

pub like_keys : (join_of (keyed 1 0) (keyed 1 0) 5).answer ≡ 0
unfolding powers_from
like_keys = refl

-- a key whose first power has these words, whatever else it stores; a record under it, with stale bytes
abbrev key_with : (lo hi : ℕ) (d : FieldElement) (p q r : Power) → ExpandedKey
key_with lo hi d p q r = record { powers = record { h = record { lo = lo; hi = hi }; d = d } ∷ p ∷ q ∷ r ∷ [] }

abbrev hashing : ExpandedKey → (acc : FieldElement) → Hash
hashing key acc = record { key = key; acc = acc; pending = replicate 16 9; count = 0 }

module _ (d e : FieldElement) (p q r s t u : Power) (a b : FieldElement) where
  -- "Keys are alike when their 16 bytes of H are equal": both words of H count, and nothing else that the keys store
  pub low_unlike : join_of (hashing (key_with 2 3 d p q r) a) (hashing (key_with 1 3 d p q r) b) 5 ≡ record { answer = 14; hash = zero_hash; dots = 0 }
  low_unlike = refl

  pub high_unlike : join_of (hashing (key_with 2 3 d p q r) a) (hashing (key_with 2 1 d p q r) b) 5 ≡ record { answer = 14; hash = zero_hash; dots = 0 }
  high_unlike = refl

  -- "the first one's stored key, nothing pending, whose hash is A multiplied by H through dot n times, plus B"
  abbrev joins : (acc dots : ℕ) → JoinAnswer
  joins acc dots = record { answer = 0; hash = record { key = key_with 2 3 d p q r; acc = element acc; pending = replicate 16 0; count = 0 }; dots = dots }

  abbrev H : ℕ
  H = 2 + 3 * 2 ^ 64

  pub join_none : join_of (hashing (key_with 2 3 d p q r) a) (hashing (key_with 2 3 e s t u) b) 0 ≡ joins (value a ⊕ value b) 0
  unfolding times dots_of ones width over_digits
  join_none = refl

  pub join_four : join_of (hashing (key_with 2 3 d p q r) a) (hashing (key_with 2 3 e s t u) b) 4 ≡ joins (dot (dot (dot (dot (value a) H) H) H) H ⊕ value b) 3
  unfolding times dots_of ones width over_digits
  join_four = refl

-- a message in parts: the parts in their order, each fed to a fresh record, the second one's blocks counted
pub parts_message : (r : Route) (s t u : List ℕ) → message (Both (Part r s) (Both (Part r t) (Part r u))) ≡ s ++ (t ++ u)
parts_message r s t u = refl

pub part_hash : (key s : List ℕ) (r : Route) → hash_of key (Part r s) ≡ (whole_of r (start_of key).hash s).hash
part_hash key s r = refl

pub parts_hash : (key : List ℕ) (r : Route) → (hash_of key (Both (Part r (replicate 16 7)) (Part r (replicate 32 8)))
    ≡ (join_of (whole_of r (start_of key).hash (replicate 16 7)).hash (whole_of r (start_of key).hash (replicate 32 8)).hash 2).hash)
    × (hash_of key (Both (Part r (replicate 16 7)) (Part r (replicate 31 8)))
    ≡ (join_of (whole_of r (start_of key).hash (replicate 16 7)).hash (whole_of r (start_of key).hash (replicate 31 8)).hash 1).hash)
parts_hash key r = (refl, refl)
