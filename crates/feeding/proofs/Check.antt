-- The check, both ways: yes exactly where every stored power and D value belongs to the stored H. Every key that is made passes it. Assumes nothing.
use mathlib.Core.Path.{◌≡◌, refl, sym, ap, ap₂, ◌∙◌}
use mathlib.Core.Bool.{Bool, true, false, ◌&&◌, false≢true}
use mathlib.Core.List.{List, [], ◌∷◌}
use Prim.Native.Nat.{ℕ, ◌^◌, ◌<◌}
use lib.Dec.{eqb}
use borrow.Author.Tests.{eqb-true, eq-eqb}
use Rattle.field.specs.declared.field_element.FieldElement.{FieldElement}
use Rattle.field.specs.Element.{value}
use Rattle.field.proofs.Element.{value_element}
use Rattle.feeding.specs.declared.Power.{Power}
use Rattle.feeding.specs.declared.ExpandedKey.{ExpandedKey}
use Rattle.feeding.specs.Key.{powers_from, key_of, h_of, same_element, same_power, same_powers, check_of}

both : (a b : Bool) → a && b ≡ true → (a ≡ true) × (b ≡ true)
both true b e = (refl, e)
both false true e = (e, refl)
both false false e = (e, e)

same_element_lem : (a b : FieldElement) → same_element a b ≡ true → a ≡ b
same_element_lem a b e =
    let t = both (eqb a.lo b.lo) (eqb a.hi b.hi) e in
    λ i. record { lo = eqb-true a.lo b.lo t.0 i; hi = eqb-true a.hi b.hi t.1 i }

element_same : (a : FieldElement) → same_element a a ≡ true
element_same a = ap₂ ◌&&◌ (eq-eqb a.lo a.lo refl) (eq-eqb a.hi a.hi refl)

same_power_lem : (p q : Power) → same_power p q ≡ true → p ≡ q
same_power_lem p q e =
    let t = both (same_element p.h q.h) (same_element p.d q.d) e in
    λ i. record { h = same_element_lem p.h q.h t.0 i; d = same_element_lem p.d q.d t.1 i }

same_powers_lem : (ps qs : List Power) → same_powers ps qs ≡ true → ps ≡ qs
unfolding same_powers
same_powers_lem [] [] e = refl
same_powers_lem [] (q ∷ qs) e = absurd (false≢true e)
same_powers_lem (p ∷ ps) [] e = absurd (false≢true e)
same_powers_lem (p ∷ ps) (q ∷ qs) e = let t = both (same_power p q) (same_powers ps qs) e in ap₂ ◌∷◌ (same_power_lem p q t.0) (same_powers_lem ps qs t.1)

powers_same : (ps : List Power) → same_powers ps ps ≡ true
unfolding same_powers
powers_same [] = refl
powers_same (p ∷ ps) = ap₂ ◌&&◌ (ap₂ ◌&&◌ (element_same p.h) (element_same p.d)) (powers_same ps)

-- yes: the key is the one that belongs to its H
pub checked : (key : ExpandedKey) → check_of key ≡ true → key ≡ key_of (value (h_of key))
checked key e = let t = same_powers_lem key.powers (key_of (value (h_of key))).powers e in λ i. record { powers = t i }

-- and such a key gets a yes
pub belonging_checks : (key : ExpandedKey) → key ≡ key_of (value (h_of key)) → check_of key ≡ true
belonging_checks key e = ap (λ k. same_powers key.powers k.powers) (sym e) ∙ powers_same key.powers

-- the H of the key that belongs to h
pub value_h_of : (h : ℕ) → h < 2 ^ 128 → value (h_of (key_of h)) ≡ h
unfolding powers_from
value_h_of h l = value_element h l

-- "every expanded key we make passes it"
pub made_checks : (h : ℕ) → h < 2 ^ 128 → check_of (key_of h) ≡ true
made_checks h l = belonging_checks (key_of h) (ap key_of (sym (value_h_of h l)))
