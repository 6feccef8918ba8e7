-- No blocks on any route, and lone blocks one list after the other. Assumes nothing.
use mathlib.Core.Path.{◌≡◌, refl, sym, ap, ◌∙◌}
use mathlib.Core.List.{List, [], ◌∷◌, ◌++◌}
use Prim.Native.Nat.{ℕ, zero, suc, ◌/◌}
use native.Mathlib.Omega.{arith}
use lib.ListN.{length, take, drop}
use Rattle.field.specs.declared.field_element.FieldElement.{FieldElement}
use Rattle.field.specs.declared.rf.Counted.{Counted}
use Rattle.field.specs.Element.{value, element}
use Rattle.field.specs.Rf.{counted, Term, total, r_of, f_of, rf_reduce, rf_group}
use Rattle.field.proofs.Element.{Sized, value_lt, value_element, element_value}
use Rattle.feeding.specs.declared.Power.{Power}
use Rattle.feeding.specs.declared.ExpandedKey.{ExpandedKey}
use Rattle.feeding.specs.declared.Route.{Route}
use Rattle.feeding.specs.declared.Route.TheVariants.{Wide, Narrow, Rf}
use Rattle.rfc8452.specs.Machine.{run}
use Rattle.feeding.specs.Key.{h_of}
use Rattle.feeding.specs.Formulas.{paired, joining, group_of, groups_of, rf_run, alone}
use Rattle.feeding.specs.Routes.{absorb_on}
use Rattle.rfc8452.proofs.Run.{run_lt, run_++}

-- lone blocks on the R/F route, one after the other
pub lone_run : (ps : List Power) (held : Counted) (xs : List ℕ) → rf_run alone ps held xs ≡ groups_of (length xs) 1 ps held xs
unfolding rf_run
lone_run ps held xs = let e : length xs / 1 ≡ length xs = omega arith in ap (λ k. groups_of k 1 ps held xs) e

lone_++ : (ps : List Power) (held : Counted) (xs ys : List ℕ) → groups_of (length (xs ++ ys)) 1 ps held (xs ++ ys) ≡ groups_of (length ys) 1 ps (groups_of (length xs) 1 ps held xs) ys
unfolding groups_of
lone_++ ps held [] ys = refl
lone_++ ps held (x ∷ xs) ys = lone_++ ps (group_of ps held (x ∷ [])) xs ys

-- what was spent before has no part in the element
groups_element : (k n : ℕ) (ps : List Power) (a b : Counted) (xs : List ℕ) → a.element ≡ b.element → (groups_of k n ps a xs).element ≡ (groups_of k n ps b xs).element
unfolding groups_of rf_group
groups_element zero n ps a b xs e = e
groups_element (suc k) n ps a b xs e =
    let ts : FieldElement → List Term = λ v. paired ps (joining (value v) (take n xs)) in
    groups_element k n ps (group_of ps a (take n xs)) (group_of ps b (take n xs)) (drop n xs) (ap (λ v. element (rf_reduce (total r_of (ts v)) (total f_of (ts v)))) e)

pub alone_element : (route : Route) (key : ExpandedKey) (a b : Counted) (xs : List ℕ) → a.element ≡ b.element
    → (absorb_on route alone key a xs).element ≡ (absorb_on route alone key b xs).element
unfolding rf_run
alone_element Wide key a b xs e = ap (λ v. element (run (value (h_of key)) (value v) xs)) e
alone_element Narrow key a b xs e = ap (λ v. element (run (value (h_of key)) (value v) xs)) e
alone_element Rf key a b xs e = groups_element (length xs / 1) 1 key.powers a b xs e

module _ (key : ExpandedKey) (held : Counted) (sized : Sized held.element) where
  -- no block leaves the element as it is
  plain_none : counted (run (value (h_of key)) (value held.element) []) held.multiplies ≡ held
  unfolding run
  plain_none = λ i. record { element = element_value held.element sized i; multiplies = held.multiplies }

  pub alone_none : (route : Route) → absorb_on route alone key held [] ≡ held
  unfolding rf_run groups_of
  alone_none Wide = plain_none
  alone_none Narrow = plain_none
  alone_none Rf = refl

  -- first xs, then ys
  plain_++ : (xs ys : List ℕ) → counted (run (value (h_of key)) (value held.element) (xs ++ ys)) held.multiplies
      ≡ counted (run (value (h_of key)) (value (counted (run (value (h_of key)) (value held.element) xs) held.multiplies).element) ys) held.multiplies
  plain_++ xs ys =
      let h : ℕ = value (h_of key) in
      let s : ℕ = value held.element in
      ap (λ n. counted n held.multiplies)
      (run_++ h s xs ys ∙ ap (λ n. run h n ys) (sym (value_element (run h s xs) (run_lt h s xs (value_lt held.element sized)))))

  pub alone_++ : (route : Route) (xs ys : List ℕ) → absorb_on route alone key held (xs ++ ys) ≡ absorb_on route alone key (absorb_on route alone key held xs) ys
  alone_++ Wide xs ys = plain_++ xs ys
  alone_++ Narrow xs ys = plain_++ xs ys
  alone_++ Rf xs ys =
      lone_run key.powers held (xs ++ ys) ∙ lone_++ key.powers held xs ys
      ∙ ap (λ c. groups_of (length ys) 1 key.powers c ys) (sym (lone_run key.powers held xs)) ∙ sym (lone_run key.powers (rf_run alone key.powers held xs) ys)
