-- The expanded key and its check, in cases (document 01, "Feeding and joining" and port order 5). Assumes nothing.
use mathlib.Core.Path.{◌≡◌, refl}
use mathlib.Core.Bool.{true, false}
use mathlib.Core.List.{[], ◌∷◌}
use Prim.Native.Nat.{ℕ, ◌+◌, ◌-◌, ◌*◌, ◌^◌}
use lib.Dec.{lit<}
use lib.ListN.{replicate, set}
use Rattle.octets.specs.Xor.{◌⊕◌}
use Rattle.gf2.specs.Carryless.{clmul, clmul_n}
use Rattle.gf2.specs.Remainder.{remainder, remainder_n, times_x}
use Rattle.gf2.specs.Polyval.{dot, unit, modulus, x_inv128}
use Rattle.field.specs.Element.{element}
use Rattle.field.specs.Rf.{companion_of}
use Rattle.feeding.specs.declared.Power.{Power}
use Rattle.feeding.specs.declared.ExpandedKey.{ExpandedKey}
use Rattle.feeding.specs.Key.{power_count, power_of, powers_from, key_of, expanded_of, power_at, h_of, same_element, same_power, same_powers, check_of}
use Rattle.feeding.proofs.Check.{made_checks}

-- four powers, by dot: "D = swap(H) + H0·P1" and "powers taken by dot"
pub four_powers : power_count ≡ 4
four_powers = refl

pub key_powers : (h : ℕ) → key_of h
    ≡ record { powers = power_of h ∷ power_of (dot h h) ∷ power_of (dot (dot h h) h) ∷ power_of (dot (dot (dot h h) h) h) ∷ [] }
unfolding powers_from
key_powers h = refl

pub power_words : power_of (1 + 2 * 2 ^ 64) ≡ record { h = record { lo = 1; hi = 2 }; d = record { lo = 0xc200000000000002; hi = 1 } }
unfolding companion_of clmul clmul_n ◌⊕◌
power_words = refl

pub expanded_with : (h : ℕ) → expanded_of h ≡ record { key = key_of h; multiplies = 19 }
expanded_with h = refl

-- the power at a place, zeros past the last; the H of a key is its first power's
pub power_places : (p q : Power) → (power_at (p ∷ q ∷ []) 0 ≡ p) × (power_at (p ∷ q ∷ []) 1 ≡ q)
    × (power_at (p ∷ q ∷ []) 2 ≡ record { h = record { lo = 0; hi = 0 }; d = record { lo = 0; hi = 0 } })
power_places p q = (refl, refl, refl)

pub first_power : (p q : Power) → h_of (record { powers = p ∷ q ∷ [] }) ≡ p.h
first_power p q = refl

-- elements are the same by both words
pub words_compared : (same_element (record { lo = 1; hi = 2 }) (record { lo = 1; hi = 2 }) ≡ true) × (same_element (record { lo = 1; hi = 2 }) (record { lo = 3; hi = 2 }) ≡ false)
    × (same_element (record { lo = 1; hi = 2 }) (record { lo = 1; hi = 3 }) ≡ false)
words_compared = (refl, refl, refl)

-- powers by both elements, and lists by every power and by their lengths
pub elements_compared : (same_power (power_of 1) (power_of 1) ≡ true) × (same_power (power_of 1) (record { h = element 2; d = (power_of 1).d }) ≡ false)
    × (same_power (power_of 1) (record { h = element 1; d = element 2 }) ≡ false)
unfolding companion_of clmul clmul_n ◌⊕◌
elements_compared = (refl, refl, refl)

pub lengths_compared : (same_powers [] [] ≡ true) × (same_powers [] (power_of 0 ∷ []) ≡ false) × (same_powers (power_of 0 ∷ []) [] ≡ false)
unfolding same_powers
lengths_compared = (refl, refl, refl)

-- a check stuck at no: the unit's key belongs to it, and that of zero
pub check_yes : check_of (key_of unit) ≡ true
unfolding unit
check_yes = made_checks unit (lit< tt)

pub zero_key_checks : check_of (key_of 0) ≡ true
unfolding same_powers powers_from companion_of dot clmul clmul_n remainder remainder_n times_x modulus x_inv128 ◌⊕◌
zero_key_checks = refl

-- a check stuck at yes: a D value that does not belong, and a power that does not
pub check_no_d : check_of (record { powers = record { h = element 1; d = element 1 } ∷ replicate (power_count - 1) (power_of 1) }) ≡ false
unfolding same_powers powers_from companion_of clmul clmul_n ◌⊕◌
check_no_d = refl

pub check_no_power : check_of (record { powers = replicate power_count (power_of 1) }) ≡ false
unfolding same_powers powers_from companion_of dot clmul clmul_n remainder remainder_n times_x modulus x_inv128 ◌⊕◌
check_no_power = refl

-- the key of zero with another power, and another D value, at each place in turn
abbrev with_power : (i : ℕ) (p : Power) → ExpandedKey
with_power i p = record { powers = set (replicate power_count (power_of 0)) i p }

pub every_power_counts : (check_of (with_power 0 (record { h = element 1; d = element 0 })) ≡ false) × (check_of (with_power 1 (record { h = element 1; d = element 0 })) ≡ false)
    × (check_of (with_power 2 (record { h = element 1; d = element 0 })) ≡ false) × (check_of (with_power 3 (record { h = element 1; d = element 0 })) ≡ false)
unfolding same_powers powers_from companion_of dot clmul clmul_n remainder remainder_n times_x modulus x_inv128 ◌⊕◌
every_power_counts = (refl, refl, refl, refl)

pub every_d_counts : (check_of (with_power 0 (record { h = element 0; d = element 1 })) ≡ false) × (check_of (with_power 1 (record { h = element 0; d = element 1 })) ≡ false)
    × (check_of (with_power 2 (record { h = element 0; d = element 1 })) ≡ false) × (check_of (with_power 3 (record { h = element 0; d = element 1 })) ≡ false)
unfolding same_powers powers_from companion_of dot clmul clmul_n remainder remainder_n times_x modulus x_inv128 ◌⊕◌
every_d_counts = (refl, refl, refl, refl)

-- the all_zero record, which a refusal returns, holds the key that belongs to zero
pub zero_belongs : key_of 0 ≡ record { powers = replicate power_count (record { h = element 0; d = element 0 }) }
unfolding powers_from companion_of dot clmul clmul_n remainder remainder_n times_x modulus x_inv128 ◌⊕◌
zero_belongs = refl
