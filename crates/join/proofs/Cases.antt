-- Cases of the halving, proved of the definitions. Assumes nothing.
use Rattle.std.proofs.Common.{◌≡◌, ℕ, ◌-◌, ◌^◌, refl}
use Rattle.gf2.specs.Polyval.{dot}
use Rattle.field.specs.declared.field_element.FieldElement.{FieldElement}
use Rattle.field.specs.Element.{value, element}
use Rattle.feeding.specs.Times.{times, over_digits, ones, width, dots_of}
use Rattle.join.specs.declared.halving.Halving.{Halving}
use Rattle.join.specs.Halving.{multiplied_by, multiplied, chosen, halved}

-- "multiplied by H through dot n times": none, and five, which halving makes in four dots
pub no_times : (h a : ℕ) → multiplied_by h 0 a ≡ record { product = element a; dots = 0 }
unfolding times dots_of ones width over_digits
no_times h a = refl

pub five_times : (h a : ℕ) → multiplied_by h 5 a ≡ record { product = element (dot (dot (dot (dot (dot a h) h) h) h) h); dots = 4 }
unfolding times dots_of ones width over_digits
five_times h a = refl

-- the counted dot is one multiplication; its count is a word, which wraps
pub one_dot : (p : FieldElement) (h : ℕ) → multiplied (record { product = p; dots = 0 }) h ≡ multiplied_by h 1 (value p)
unfolding times dots_of ones width over_digits
one_dot p h = refl

pub dots_wrap : (p : FieldElement) (h : ℕ) → (multiplied (record { product = p; dots = 2 ^ 64 - 1 }) h).dots ≡ 0
dots_wrap p h = refl

-- a digit that is 1 takes its square, and one that is 0 does not; the last digit has no square behind it
module _ (p q : FieldElement) where
  abbrev at : ℕ → Halving
  at left = record { product = p; square = q; left = left; dots = 7 }

  pub one_chosen : chosen (at 5) ≡ record { product = element (dot (value p) (value q)); square = q; left = 5; dots = 8 }
  one_chosen = refl

  pub zero_passed : chosen (at 6) ≡ at 6
  zero_passed = refl

  pub next_square : halved (at 5) ≡ record { product = p; square = element (dot (value q) (value q)); left = 2; dots = 8 }
  next_square = refl

  pub two_left : halved (at 2) ≡ record { product = p; square = element (dot (value q) (value q)); left = 1; dots = 8 }
  two_left = refl

  pub last_digit_lem : halved (at 1) ≡ at 0
  last_digit_lem = refl
