-- The loops over the powers of a key, turn by turn. Assumes nothing.
use mathlib.Core.Path.{◌≡◌, refl, sym, ap, ◌∙◌, subst}
use mathlib.Core.Bool.{Bool, ◌&&◌}
use mathlib.Core.List.{List, [], ◌∷◌, map}
use Prim.Native.Nat.{ℕ, suc, ◌+◌, ◌<◌}
use native.Mathlib.Nat.{zero-add}
use native.Mathlib.Numerals.{add-one}
use lib.ListN.{length, get_or, set, length-map}
use lib.Seq.{paste, paste-suc}
use lib.Pointwise.{pointwise}
use Rattle.gf2.specs.Polyval.{dot}
use Rattle.field.specs.declared.field_element.FieldElement.{FieldElement}
use Rattle.field.specs.declared.rf.Counted.{Counted}
use Rattle.field.specs.Element.{value, element}
use Rattle.field.specs.Rf.{companion_of, after, counted, rf_lone}
use Rattle.field.proofs.Element.{Sized, value_lt, value_of, element_sized}
use Rattle.field.proofs.Routes.{rf_route}
use Rattle.feeding.specs.declared.Power.{Power}
use Rattle.feeding.proofs.Powers.{nth, nth_next, nth_lt}
use Rattle.feeding.specs.Key.{same_power, same_powers}

-- how many elements an array of structs has: what a function knows of one speaks of the list of their fields
pub length_mapped : (X Y : Type 0) (f : X → Y) (l : List X) (n : ℕ) → length (map f l) ≡ n → length l ≡ n
length_mapped X Y f l n e = sym (length-map l f) ∙ e

-- a turn of a loop that stores a list from the front on
pub store_turn : {A : Type 0} (d s : List A) (z : A) (i : ℕ) → i < length d → i < length s → set (paste d 0 s i) i (get_or s i z) ≡ paste d 0 s (i + 1)
store_turn d s z i hd hs =
    ap (λ n. set (paste d 0 s i) n (get_or s i z)) (sym (zero-add i)) ∙ paste-suc d 0 s i z (subst (λ n. n < length d) (sym (zero-add i)) hd) hs
    ∙ ap (paste d 0 s) (sym (add-one i))

-- a turn of the expansion: the next power by the R/F product, and its D value
module _ (h d last : FieldElement) (j spent : ℕ) (sized : Sized h) (belongs : d ≡ element (companion_of (value h)))
    (at_j : last ≡ element (nth (value h) (value h) j)) where
  abbrev p : ℕ
  p = nth (value h) (value h) (suc j)

  pub next_power : (r : Counted) → r ≡ rf_lone (value last) (value h) (value d) spent → r ≡ counted p (after 5 spent)
  next_power r e =
      e ∙ rf_route last h d (subst Sized (sym at_j) (element_sized (nth (value h) (value h) j))) sized belongs spent
      ∙ ap (λ n. counted n (after 5 spent))
      (ap (λ n. dot n (value h)) (value_of (nth (value h) (value h) j) (nth_lt (value h) (value h) j (value_lt h sized)) at_j) ∙ sym (nth_next (value h) (value h) j))

  pub next_companion : (r s : Counted) → r ≡ counted p (after 5 spent) → s ≡ counted (companion_of (value r.element)) (after 1 r.multiplies)
      → s ≡ counted (companion_of p) (after 1 (after 5 spent))
  next_companion r s er es =
      es ∙ (λ i. counted (companion_of (value_of p (nth_lt (value h) (value h) (suc j) (value_lt h sized)) (ap (λ c. c.element) er) i)) (after 1 (er i).multiplies))

-- keys are compared power by power
pub same_pointwise : (f : Power → Power → Bool) → ((p q : Power) → f p q ≡ same_power p q) → (ps qs : List Power) → pointwise f ps qs ≡ same_powers ps qs
unfolding same_powers
same_pointwise f e [] [] = refl
same_pointwise f e [] (q ∷ qs) = refl
same_pointwise f e (p ∷ ps) [] = refl
same_pointwise f e (p ∷ ps) (q ∷ qs) = λ i. e p q i && same_pointwise f e ps qs i
