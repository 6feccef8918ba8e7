-- The definitions computed on small strings, with a block cipher and a tag that can be followed by eye. Assumes nothing.
use Prim.Native.Nat.{ℕ, ◌+◌}
use mathlib.Core.Path.{◌≡◌, refl}
use mathlib.Core.Bool.{true, false}
use mathlib.Core.List.{List, [], ◌∷◌, ◌++◌}
use lib.ListN.{get_or, replicate}
use Rattle.octets.specs.Xor.{◌⊕◌}
use Rattle.octets.specs.Strings.{xor_bytes, same_bytes}
use Rattle.modes.specs.Stream.{stream, masked}
use Rattle.modes.specs.Mode.{sealed_by, body_of, tag_of, opened_by, authentic_by}

-- a counter of one byte, and sixteen copies of it for its block
abbrev next : List ℕ → List ℕ
next c = (get_or c 0 0 + 1) ∷ []

abbrev cipher : List ℕ → List ℕ
cipher c = replicate 16 (get_or c 0 0)

-- the second block has the next counter, and a short last block is masked too
pub seventeen_bytes : masked next cipher (5 ∷ []) (replicate 17 0) ≡ replicate 16 5 ++ (6 ∷ [])
unfolding masked stream xor_bytes ◌⊕◌
seventeen_bytes = refl

abbrev mask : List ℕ → List ℕ → List ℕ
mask tag text = text

abbrev nines : List ℕ → List ℕ
nines text = replicate 16 9

-- the tag stands behind the text
pub text_then_tag : sealed_by mask nines (1 ∷ 2 ∷ []) ≡ 1 ∷ 2 ∷ replicate 16 9
unfolding sealed_by
text_then_tag = refl

-- the last sixteen bytes are the tag
pub body_and_tag : (body_of (1 ∷ 2 ∷ replicate 16 9) ≡ 1 ∷ 2 ∷ []) × (tag_of (1 ∷ 2 ∷ replicate 16 9) ≡ replicate 16 9)
body_and_tag = (refl, refl)

-- the text is masked under the tag, and unmasked under the one that came: here a mask shows both
abbrev shown : List ℕ → List ℕ → List ℕ
shown tag text = tag ++ text

pub masked_under_tag : sealed_by shown nines (1 ∷ 2 ∷ []) ≡ replicate 16 9 ++ (1 ∷ 2 ∷ replicate 16 9)
unfolding sealed_by
masked_under_tag = refl

pub opened_under_tag : opened_by shown (1 ∷ 2 ∷ replicate 16 9) ≡ replicate 16 9 ++ (1 ∷ 2 ∷ [])
unfolding opened_by
opened_under_tag = refl

-- and another tag is not authentic, in its last byte alone
pub right_tag : authentic_by mask nines (1 ∷ 2 ∷ replicate 16 9) ≡ true
unfolding authentic_by opened_by same_bytes
right_tag = refl

pub wrong_tag : authentic_by mask nines (1 ∷ 2 ∷ (replicate 15 9 ++ (8 ∷ []))) ≡ false
unfolding authentic_by opened_by same_bytes
wrong_tag = refl
