-- A product of two elements that is dot: what its calls return, whichever limbs it goes by. Assumes nothing.
use Rattle.std.specs.Prelude.{◌≡◌, ◌^◌, ◌<◌}
use Rattle.gf2.specs.Polyval.{dot}
use Rattle.field.specs.declared.field_element.FieldElement.{FieldElement}
use Rattle.field.specs.Element.{value, element}

abbrev pub InWords : FieldElement → Type 0
InWords e = (e.lo < 2 ^ 64) × (e.hi < 2 ^ 64)

-- `Gives a h r`: the call at a and h may return r
abbrev pub IsDot : (Gives : FieldElement → FieldElement → FieldElement → Type 0) → Type 0
IsDot Gives = (a h r : FieldElement) → InWords a → InWords h → Gives a h r → r ≡ element (dot (value a) (value h))
