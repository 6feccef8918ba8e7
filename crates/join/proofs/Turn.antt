-- A turn of the halving keeps what the state stands for, and counts its dots. Assumes nothing.
use Rattle.std.proofs.Common.{◌≡◌, ℕ, ◌+◌, ◌/◌, ◌%◌, ◌<◌, ◌≤◌, Bool, true, false, cond, eqb, ltb, sym, refl, ap, ◌∙◌, subst, ap₂, arith, ltb-false, ltb-true, eqb-true}
use borrow.Author.Tests.{eqb-false}
use Rattle.gf2.specs.Polyval.{dot}
use Rattle.gf2.proofs.Dot.{dot_lt}
use Rattle.field.specs.Element.{value, element}
use Rattle.field.specs.Rf.{after}
use Rattle.field.proofs.Element.{Sized, value_element, element_sized}
use Rattle.join.specs.declared.halving.Halving.{Halving}
use Rattle.feeding.specs.Times.{times, dots_of}
use Rattle.join.specs.Halving.{chosen, halved}
use Rattle.join.proofs.Times.{even, odd, once, never}
use Rattle.feeding.proofs.Dots.{dots_more, dots_one, dots_none}

-- the product that a state stands for
abbrev pub stands : Halving → ℕ
stands s = times (value s.square) s.left (value s.product)

-- what a turn asks and keeps
pub record Kept (s next : Halving) : Type 0 where
  pub same : stands next ≡ stands s
  pub counted : next.dots + dots_of next.left ≡ s.dots + dots_of s.left
  pub sized : Sized next.product
  pub less : next.left < s.left

dot-value : (a b : ℕ) → value (element (dot a b)) ≡ dot a b
dot-value a b = value_element (dot a b) (dot_lt a b)

-- the two halves of a turn, by the outcome of their tests
abbrev chosen_by : Bool → Halving → Halving
chosen_by t s =
    cond t (record { product = element (dot (value s.product) (value s.square)); square = s.square; left = s.left; dots = after 1 s.dots }) s

abbrev halved_by : Bool → Halving → Halving
halved_by t s =
    cond t (record { product = s.product; square = element (dot (value s.square) (value s.square)); left = s.left / 2; dots = after 1 s.dots })
    (record { product = s.product; square = s.square; left = 0; dots = s.dots })

module _ (s : Halving) (some : 0 < s.left) (sized : Sized s.product) (fits : s.dots + dots_of s.left ≤ 127) where
  abbrev k : ℕ
  k = s.left

  abbrev p : ℕ
  p = value s.product

  abbrev q : ℕ
  q = value s.square

  turned : (t u : Bool) → eqb (k % 2) 1 ≡ t → ltb 1 k ≡ u → Kept s (halved_by u (chosen_by t s))
  turned true true et eu =
      let e : k % 2 ≡ 1 = eqb-true (k % 2) 1 et in
      let l : 1 < k = ltb-true 1 k eu in
      record {
        same = ap₂ (λ x y. times x (k / 2) y) (dot-value q q) (dot-value p q) ∙ sym (odd q k p e);
        counted = omega (arith, dots_more k l);
        sized = element_sized (dot p q);
        less = omega arith;
      }
  turned true false et eu =
      let l : k ≡ 1 = let m = ltb-false 1 k eu in omega arith in
      record {
        same = never q (value (element (dot p q))) ∙ dot-value p q ∙ sym (ap (λ n. times q n p) l ∙ once q p);
        counted = let n : dots_of k ≡ 1 = ap dots_of l ∙ dots_one in omega (arith, dots_none);
        sized = element_sized (dot p q);
        less = some;
      }
  turned false true et eu =
      let e : k % 2 ≡ 0 = let no_one = eqb-false (k % 2) 1 et in omega (arith, no_one) in
      let l : 1 < k = ltb-true 1 k eu in
      record {
        same = ap (λ x. times x (k / 2) p) (dot-value q q) ∙ sym (even q k p e);
        counted = omega (arith, dots_more k l);
        sized = sized;
        less = omega arith;
      }
  turned false false et eu = let no_one = eqb-false (k % 2) 1 et in let m = ltb-false 1 k eu in absurd (no_one (omega arith))

  left_kept : (t : Bool) → (chosen_by t s).left ≡ k
  left_kept true = refl
  left_kept false = refl

  pub turn : Kept s (halved (chosen s))
  turn =
      let t : Bool = eqb (k % 2) 1 in
      subst (Kept s) (ap (λ n. halved_by (ltb 1 n) (chosen s)) (sym (left_kept t))) (turned t (ltb 1 k) refl refl)
