-- All routes agree where the key's check says yes: groups of any sizes on its powers are the machine's run. Assumes nothing.
use mathlib.Core.Path.{◌≡◌, refl, sym, ap, ap₂, ◌∙◌, subst}
use mathlib.Core.Bool.{true}
use mathlib.Core.List.{List, [], ◌∷◌}
use Prim.Native.Nat.{ℕ, zero, suc, ◌+◌, ◌*◌, ◌/◌, ◌≤◌, ◌<◌, ◌^◌}
use native.Mathlib.Nat.{suc-mul, zero-mul, div-mul-le_self}
use native.Mathlib.Omega.{arith}
use lib.Dec.{lit<, lit≤}
use lib.ListN.{length, take, drop, take-append-drop, length-drop}
use lib.Seq.{take-add, take-length, length-take-le}
use Rattle.octets.specs.Xor.{◌⊕◌}
use Rattle.gf2.specs.Polyval.{dot}
use Rattle.gf2.proofs.Roots.{Elements}
use Rattle.field.specs.declared.rf.Counted.{Counted}
use Rattle.field.specs.Element.{value, element}
use Rattle.field.specs.Rf.{companion_of, Term, total}
use Rattle.field.proofs.Element.{Sized, value_element, value_of, element_value, element_sized, value_lt}
use Rattle.field.proofs.RfProduct.{companion_lt}
use Rattle.field.proofs.Aggregate.{dot_of, Belong, group_dots}
use Rattle.feeding.specs.declared.Power.{Power}
use Rattle.rfc8452.specs.Machine.{run}
use Rattle.feeding.specs.declared.ExpandedKey.{ExpandedKey}
use Rattle.feeding.specs.declared.Route.{Route}
use Rattle.feeding.specs.declared.Route.TheVariants.{Wide, Narrow, Rf}
use Rattle.feeding.specs.Key.{power_count, power_at, powers_from, key_of, h_of, check_of}
use Rattle.feeding.specs.Routes.{absorb_on}
use Rattle.feeding.proofs.Check.{checked}
use Rattle.feeding.specs.Formulas.{paired, group_of, groups_of, rf_run, in_groups, alone}
use Rattle.rfc8452.proofs.Run.{run_lt, run_++}
use Rattle.feeding.proofs.Powers.{nth, nth_lt, power_at_lem}
use Rattle.feeding.proofs.Paired.{group_elements}
use Rattle.feeding.proofs.Sums.{dots, run_dots}

-- sizes within the key's powers, the last of them 1, so that no block is left
abbrev pub Ends : List ℕ → Type 0
Ends [] = ⊥
Ends (n ∷ []) = n ≡ 1
Ends (n ∷ m ∷ ns) = (0 < n) × (n ≤ power_count) × Ends (m ∷ ns)

pub groups_end : Ends in_groups
groups_end = (lit< tt, lit≤ tt, refl)

pub lones_end : Ends alone
lones_end = refl

elements_take : (n : ℕ) (xs : List ℕ) → Elements xs → Elements (take n xs)
elements_take zero xs e = tt
elements_take (suc n) [] e = tt
elements_take (suc n) (x ∷ xs) e = (e.0, elements_take n xs e.1)

elements_drop : (n : ℕ) (xs : List ℕ) → Elements xs → Elements (drop n xs)
elements_drop zero xs e = e
elements_drop (suc n) [] e = tt
elements_drop (suc n) (x ∷ xs) e = elements_drop n xs e.1

module _ (h : ℕ) (h_lt : h < 2 ^ 128) where
  abbrev ps : List Power
  ps = powers_from h h power_count

  power_h : (j : ℕ) → j < power_count → value (power_at ps j).h ≡ nth h h j
  power_h j l = ap (λ p. value p.h) (power_at_lem h h power_count j l) ∙ value_element (nth h h j) (nth_lt h h j h_lt)

  power_d : (j : ℕ) → j < power_count → value (power_at ps j).d ≡ companion_of (nth h h j)
  power_d j l =
      ap (λ p. value p.d) (power_at_lem h h power_count j l) ∙ value_element (companion_of (nth h h j)) (companion_lt (nth h h j) (nth_lt h h j h_lt))

  belong : (xs : List ℕ) → length xs ≤ power_count → Belong (paired ps xs)
  unfolding paired
  belong [] l = tt
  belong (x ∷ xs) l = (power_d (length xs) l ∙ ap companion_of (sym (power_h (length xs) l)), belong xs (omega arith))

  total_dots : (xs : List ℕ) → length xs ≤ power_count → total dot_of (paired ps xs) ≡ dots h xs
  unfolding paired total dots
  total_dots [] l = refl
  total_dots (x ∷ xs) l = ap₂ ◌⊕◌ (ap (dot x) (power_h (length xs) l)) (total_dots xs (omega arith))

  sizes_from : (p n j : ℕ) → Sized (power_at (powers_from h p n) j).h × Sized (power_at (powers_from h p n) j).d
  unfolding powers_from
  sizes_from p zero j = (element_sized 0, element_sized 0)
  sizes_from p (suc n) zero = (element_sized p, element_sized (companion_of p))
  sizes_from p (suc n) (suc j) = sizes_from (dot p h) n j

  -- one group
  group_run : (held : Counted) (xs : List ℕ) → Sized held.element → 0 < length xs → length xs ≤ power_count → Elements xs
      → (group_of ps held xs).element ≡ element (run h (value held.element) xs)
  group_run held [] z some few e = absurd (omega arith)
  group_run held (x ∷ xs) z some few e =
      let s : ℕ = value held.element in
      let ts : List Term = paired ps ((s ⊕ x) ∷ xs) in
      ap (λ c. c.element) (group_dots ts (group_elements ps s (x ∷ xs) (sizes_from h power_count) (value_lt held.element z) e) (belong ((s ⊕ x) ∷ xs) few) held.multiplies)
      ∙ ap element (total_dots ((s ⊕ x) ∷ xs) few ∙ sym (run_dots h s x xs))

  -- groups of n, one after the other
  groups_run : (k n : ℕ) (held : Counted) (xs : List ℕ) → Sized held.element → 0 < n → n ≤ power_count → k * n ≤ length xs → Elements xs
      → (groups_of k n ps held xs).element ≡ element (run h (value held.element) (take (k * n) xs))
  unfolding groups_of run
  groups_run zero n held xs z some few room e =
      sym (element_value held.element z) ∙ ap (λ m. element (run h (value held.element) (take m xs))) (sym (zero-mul n))
  groups_run (suc k) n held xs z some few room e =
      let s : ℕ = value held.element in
      let more : suc k * n ≡ n + k * n = suc-mul k n ∙ omega arith in
      let long : length (take n xs) ≡ n = length-take-le n xs (omega (arith, more)) in
      let next : Counted = group_of ps held (take n xs) in
      let r : ℕ = run h s (take n xs) in
      let next_is : next.element ≡ element r = group_run held (take n xs) z (omega arith) (omega arith) (elements_take n xs e) in
      groups_run k n next (drop n xs) (subst Sized (sym next_is) (element_sized r)) some few (subst (λ m. k * n ≤ m) (sym (length-drop n xs)) (omega (arith, more))) (elements_drop n xs e)
      ∙ ap element
      (ap (λ v. run h v (take (k * n) (drop n xs))) (value_of r (run_lt h s (take n xs) (value_lt held.element z)) next_is)
      ∙ sym (run_++ h s (take n xs) (take (k * n) (drop n xs))) ∙ ap (run h s) (sym (take-add n (k * n) xs) ∙ ap (λ m. take m xs) (sym more)))

  rf_run_lem : (ns : List ℕ) (held : Counted) (xs : List ℕ) → Ends ns → Sized held.element → Elements xs
      → (rf_run ns ps held xs).element ≡ element (run h (value held.element) xs)
  unfolding rf_run
  rf_run_lem [] held xs ends z e = absurd ends
  rf_run_lem (n ∷ []) held xs ends z e =
      let one : length xs / 1 ≡ length xs = omega arith in
      let all : length xs * 1 ≡ length xs = omega arith in
      ap (λ m. (groups_of (length xs / m) m ps held xs).element) ends ∙ ap (λ k. (groups_of k 1 ps held xs).element) one
      ∙ groups_run (length xs) 1 held xs z (lit< tt) (lit≤ tt) (omega arith) e
      ∙ ap (λ t. element (run h (value held.element) t)) (ap (λ m. take m xs) all ∙ take-length xs)
  rf_run_lem (n ∷ m ∷ ns) held xs ends z e =
      let s : ℕ = value held.element in
      let k : ℕ = length xs / n in
      let next : Counted = groups_of k n ps held xs in
      let r : ℕ = run h s (take (k * n) xs) in
      let next_is : next.element ≡ element r = groups_run k n held xs z ends.0 ends.1 (div-mul-le_self (length xs) n) e in
      rf_run_lem (m ∷ ns) next (drop (k * n) xs) ends.2 (subst Sized (sym next_is) (element_sized r)) (elements_drop (k * n) xs e)
      ∙ ap element
      (ap (λ v. run h v (drop (k * n) xs)) (value_of r (run_lt h s (take (k * n) xs) (value_lt held.element z)) next_is)
      ∙ sym (run_++ h s (take (k * n) xs) (drop (k * n) xs)) ∙ ap (run h s) (take-append-drop (k * n) xs))

-- an Rf step asks that the check says yes; the other routes read H alone
abbrev pub Checked : Route → ExpandedKey → Type 0
Checked Wide key = Unit {0}
Checked Narrow key = Unit {0}
Checked Rf key = check_of key ≡ true

pub agree : (route : Route) (ns : List ℕ) (key : ExpandedKey) (held : Counted) (xs : List ℕ) → Checked route key → Ends ns → Sized held.element → Elements xs
    → (absorb_on route ns key held xs).element ≡ element (run (value (h_of key)) (value held.element) xs)
unfolding powers_from
agree Wide ns key held xs good ends z e = refl
agree Narrow ns key held xs good ends z e = refl
agree Rf ns key held xs good ends z e =
    let h : ℕ = value (h_of key) in
    let whole : key ≡ key_of h = checked key good in
    let h_lt : h < 2 ^ 128 = subst (λ n. n < 2 ^ 128) (sym (ap (λ k. value (h_of k)) whole)) (value_lt (element h) (element_sized h)) in
    ap (λ k. (rf_run ns k.powers held xs).element) whole ∙ rf_run_lem h h_lt ns held xs ends z e
