-- Feeding, seen from what is left. Assumes nothing.
use mathlib.Core.Path.{◌≡◌, refl, sym, ap, ◌∙◌}
use mathlib.Core.List.{List, ◌∷◌, ◌++◌, map}
use Prim.Native.Nat.{ℕ, ◌<◌, min}
use lib.ListN.{length, take, drop}
use lib.Seq.{take_at, drop_at}
use Rattle.std.proofs.lemmas.List.{take_min, drop_min, nil_from_length}
use Rattle.octets.specs.Numbers.{number}
use Rattle.field.specs.declared.field_element.FieldElement.{FieldElement}
use Rattle.field.specs.Element.{value, element}
use Rattle.field.proofs.Element.{value_of}
use Rattle.rfc8452.specs.Machine.{step, run}
use Rattle.rfc8452.specs.Blocks.{blocks}
use Rattle.rfc8452.proofs.Cut.{blocks-none}
use Rattle.rfc8452.proofs.Parts.{blocks_cons}
use Rattle.rfc8452.specs.AppendixA.{reversed}
use Rattle.rfc8452.proofs.Reversed.{reversed_lt}

-- what an element's reversal is worth
pub reverse_value : {r : FieldElement} (e : FieldElement) → r ≡ element (reversed (value e)) → value r ≡ reversed (value e)
reverse_value e = value_of (reversed (value e)) (reversed_lt (value e))

-- x is the front of what is left: 16 bytes, or all of it where that is shorter
module _ (h a : ℕ) (s x t : List ℕ) (cut : s ≡ x ++ t) (long : length x ≡ min 16 (length s)) where
  front : take 16 s ≡ x
  front = sym (take_min 16 s) ∙ (λ i. take (sym long i) (cut i)) ∙ take_at x t (length x) refl

  behind : drop 16 s ≡ t
  behind = sym (drop_min 16 s) ∙ (λ i. drop (sym long i) (cut i)) ∙ drop_at x t (length x) refl

  pub fed_turn : 0 < length s → run h a (map reversed (blocks s)) ≡ run h (step h a (reversed (number x))) (map reversed (blocks t))
  unfolding run
  fed_turn some = ap (λ xs. run h a (map reversed xs)) (blocks_cons s some ∙ (λ i. number (front i) ∷ blocks (behind i)))

pub fed_none : (h a : ℕ) (s : List ℕ) → length s ≡ 0 → run h a (map reversed (blocks s)) ≡ a
unfolding run
fed_none h a s l = ap (λ xs. run h a (map reversed xs)) (ap blocks (nil_from_length s l) ∙ blocks-none)
