-- The terms of a group are elements where the stored values, the blocks and the element held are. Assumes nothing.
use mathlib.Core.List.{List, [], ◌∷◌}
use Prim.Native.Nat.{ℕ, ◌<◌, ◌^◌}
use lib.ListN.{length}
use Rattle.octets.specs.Xor.{◌⊕◌}
use Rattle.octets.proofs.Xor.{⊕-lt}
use Rattle.gf2.proofs.Roots.{Elements}
use Rattle.field.proofs.Element.{Sized, value_lt}
use Rattle.field.proofs.Aggregate as aggregate
use Rattle.feeding.specs.declared.Power.{Power}
use Rattle.feeding.specs.Key.{power_at}
use Rattle.feeding.specs.Formulas.{paired, joining}

-- both values of every power are elements
abbrev pub Sizes : List Power → Type 0
Sizes ps = (j : ℕ) → Sized (power_at ps j).h × Sized (power_at ps j).d

paired_elements : (ps : List Power) (xs : List ℕ) → Sizes ps → Elements xs → aggregate.Elements (paired ps xs)
unfolding paired
paired_elements ps [] z e = tt
paired_elements ps (x ∷ xs) z e =
    (e.0, value_lt (power_at ps (length xs)).h (z (length xs)).0, value_lt (power_at ps (length xs)).d (z (length xs)).1, paired_elements ps xs z e.1)

pub group_elements : (ps : List Power) (held : ℕ) (xs : List ℕ) → Sizes ps → held < 2 ^ 128 → Elements xs → aggregate.Elements (paired ps (joining held xs))
group_elements ps held [] z l e = paired_elements ps [] z e
group_elements ps held (x ∷ xs) z l e = paired_elements ps ((held ⊕ x) ∷ xs) z (⊕-lt 128 held x l e.0, e.1)
