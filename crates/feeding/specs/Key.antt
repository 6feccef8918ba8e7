-- The expanded key: the first powers of H through dot, each with its D value (document 01, "Feeding and joining", and port order 5). Assumes nothing.
use Rattle.std.specs.Prelude.{ℕ, zero, suc, ◌+◌, ◌-◌, ◌*◌, Bool, true, false, ◌&&◌, List, [], ◌∷◌, eqb, get_or}
use Rattle.gf2.specs.Polyval.{dot}
use Rattle.field.specs.declared.field_element.FieldElement.{FieldElement}
use Rattle.field.specs.Element.{value, element}
use Rattle.field.specs.Rf.{companion_of}
use Rattle.feeding.specs.declared.Power.{Power}
use Rattle.feeding.specs.declared.ExpandedKey.{ExpandedKey}
use Rattle.feeding.specs.declared.Expanded.{Expanded}

-- how many powers a key holds
abbrev pub power_count : ℕ
power_count = 4

-- a power, with the D value that belongs to it
abbrev pub power_of : ℕ → Power
power_of p = record { h = element p; d = element (companion_of p) }

-- n powers from p on: each is the one before times H
unfoldable pub powers_from : (h p n : ℕ) → List Power
powers_from h p zero = []
powers_from h p (suc n) = power_of p ∷ powers_from h (dot p h) n

-- the key that belongs to H
abbrev pub key_of : (h : ℕ) → ExpandedKey
key_of h = record { powers = powers_from h h power_count }

-- a word product for each D value, and five for each power but the first
abbrev pub expansion_cost : ℕ
expansion_cost = power_count + 5 * (power_count - 1)

abbrev pub expanded_of : (h : ℕ) → Expanded
expanded_of h = record { key = key_of h; multiplies = expansion_cost }

-- the power at a place, and the H of a stored key, which is its first power
abbrev pub power_at : List Power → ℕ → Power
power_at ps i = get_or ps i (record { h = element 0; d = element 0 })

abbrev pub h_of : ExpandedKey → FieldElement
h_of key = (power_at key.powers 0).h

abbrev pub same_element : FieldElement → FieldElement → Bool
same_element a b = eqb a.lo b.lo && eqb a.hi b.hi

abbrev pub same_power : Power → Power → Bool
same_power p q = same_element p.h q.h && same_element p.d q.d

unfoldable pub same_powers : List Power → List Power → Bool
same_powers [] [] = true
same_powers [] (q ∷ qs) = false
same_powers (p ∷ ps) [] = false
same_powers (p ∷ ps) (q ∷ qs) = same_power p q && same_powers ps qs

-- "A check says yes exactly when every power and D value stored in an expanded key belongs to its H."
abbrev pub check_of : ExpandedKey → Bool
check_of key = same_powers key.powers (key_of (value (h_of key))).powers
