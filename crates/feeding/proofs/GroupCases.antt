-- The R/F route on stored values, in cases: which block meets which power, what joins it, and how blocks are grouped (document 01, "Feeding and joining"
-- and port order 5). Assumes nothing.
use mathlib.Core.Path.{◌≡◌, refl}
use mathlib.Core.List.{List, [], ◌∷◌}
use Prim.Native.Nat.{ℕ, ◌+◌, ◌*◌, ◌^◌}
use lib.ListN.{replicate}
use Rattle.octets.specs.Xor.{◌⊕◌}
use Rattle.gf2.specs.Carryless.{clmul, clmul_n}
use Rattle.gf2.specs.Remainder.{remainder, remainder_n, times_x}
use Rattle.gf2.specs.Polyval.{dot, unit, modulus, x_inv128}
use Rattle.rfc8452.specs.Machine.{step, run}
use Rattle.field.specs.declared.rf.Counted.{Counted}
use Rattle.field.specs.Element.{value, element}
use Rattle.field.specs.Rf.{counted, total, r_part, f_part, rf_reduce, rf_group}
use Rattle.feeding.specs.declared.Power.{Power}
use Rattle.feeding.specs.declared.ExpandedKey.{ExpandedKey}
use Rattle.feeding.specs.declared.Route.TheVariants.{Wide, Narrow, Rf}
use Rattle.feeding.specs.Formulas.{paired, joining, group_of, groups_of, rf_run, in_groups, alone}
use Rattle.feeding.specs.Routes.{absorb_on}

-- "Four blocks pair with H^4, H^3, H^2, H in that order"
pub four_paired : (p q r s : Power) (a b c d : ℕ)
    → paired (p ∷ q ∷ r ∷ s ∷ []) (a ∷ b ∷ c ∷ d ∷ [])
    ≡ record { m = a; h = value s.h; d = value s.d } ∷ record { m = b; h = value r.h; d = value r.d }
    ∷ record { m = c; h = value q.h; d = value q.d } ∷ record { m = d; h = value p.h; d = value p.d } ∷ []
unfolding paired
four_paired p q r s a b c d = refl

pub lone_paired : (p q r s : Power) (a : ℕ) → paired (p ∷ q ∷ r ∷ s ∷ []) (a ∷ []) ≡ record { m = a; h = value p.h; d = value p.d } ∷ []
unfolding paired
lone_paired p q r s a = refl

-- the element held is added to the first block alone
pub first_joined : (held a b c d : ℕ) → joining held (a ∷ b ∷ c ∷ d ∷ []) ≡ (held ⊕ a) ∷ b ∷ c ∷ d ∷ []
first_joined held a b c d = refl

-- A key of which nothing belongs to anything. The low word of a block meets the high word of a D value, its high word that of a power: each leaves its
-- mark at a byte of its own, so that the result shows what met what.
abbrev marks : (j : ℕ) → Power
marks j = record { h = element (256 ^ (j + 4) * 2 ^ 64); d = element (256 ^ j * 2 ^ 64) }

abbrev marked : ExpandedKey
marked = record { powers = marks 0 ∷ marks 1 ∷ marks 2 ∷ marks 3 ∷ [] }

abbrev block : (low high : ℕ) → ℕ
block low high = low + high * 2 ^ 64

-- "on the R/F route the answer is what the formulas below give on the stored values", in a group of four and in a lone block
pub marked_group : absorb_on Rf in_groups marked (counted 0x10 0) (block 1 5 ∷ block 2 6 ∷ block 3 7 ∷ block 4 8 ∷ []) ≡ counted 0x0506070811020304 17
unfolding rf_run groups_of paired rf_group total r_part f_part rf_reduce clmul clmul_n ◌⊕◌
marked_group = refl

pub marked_lone : absorb_on Rf in_groups marked (counted 0x10 0) (block 1 5 ∷ []) ≡ counted 0x0000000500000011 5
unfolding rf_run groups_of paired rf_group total r_part f_part rf_reduce clmul clmul_n ◌⊕◌
marked_lone = refl

-- the same four blocks one by one: another value, at 5 each
pub marked_alone : absorb_on Rf alone marked (counted 0x10 0) (block 1 5 ∷ block 2 6 ∷ block 3 7 ∷ block 4 8 ∷ []) ≡ counted 0x0000000c00000014 20
unfolding rf_run groups_of paired rf_group total r_part f_part rf_reduce clmul clmul_n ◌⊕◌
marked_alone = refl

module _ (ps : List Power) (held : Counted) where
  -- "groups of four from the front, then lone blocks": none, three, and nine
  pub no_groups : rf_run in_groups ps held [] ≡ held
  unfolding rf_run groups_of
  no_groups = refl

  pub three_blocks : (a b c : ℕ) → rf_run in_groups ps held (a ∷ b ∷ c ∷ []) ≡ group_of ps (group_of ps (group_of ps held (a ∷ [])) (b ∷ [])) (c ∷ [])
  unfolding rf_run groups_of
  three_blocks a b c = refl

  pub nine_blocks : (a b c d e f g h i : ℕ) → rf_run in_groups ps held (a ∷ b ∷ c ∷ d ∷ e ∷ f ∷ g ∷ h ∷ i ∷ [])
      ≡ group_of ps (group_of ps (group_of ps held (a ∷ b ∷ c ∷ d ∷ [])) (e ∷ f ∷ g ∷ h ∷ [])) (i ∷ [])
  unfolding rf_run groups_of
  nine_blocks a b c d e f g h i = refl

  -- "piece feed and finish take lone blocks only"
  pub no_lones : rf_run alone ps held [] ≡ held
  unfolding rf_run groups_of
  no_lones = refl

  pub four_alone : (a b c d : ℕ) → rf_run alone ps held (a ∷ b ∷ c ∷ d ∷ [])
      ≡ group_of ps (group_of ps (group_of ps (group_of ps held (a ∷ [])) (b ∷ [])) (c ∷ [])) (d ∷ [])
  unfolding rf_run groups_of
  four_alone a b c d = refl

-- a key of four powers whose D values alone are altered, to zero: the R/F route takes them as they stand, the other routes read H alone
abbrev altered : ExpandedKey
altered = record { powers = replicate 4 (record { h = element unit; d = element 0 }) }

pub altered_rf : absorb_on Rf in_groups altered (counted 2 7) (1 ∷ []) ≡ counted 0 12
unfolding rf_run groups_of paired rf_group total r_part f_part rf_reduce clmul clmul_n unit ◌⊕◌
altered_rf = refl

pub altered_group : absorb_on Rf in_groups altered (counted 2 7) (1 ∷ 4 ∷ 8 ∷ 16 ∷ []) ≡ counted 0 24
unfolding rf_run groups_of paired rf_group total r_part f_part rf_reduce clmul clmul_n unit ◌⊕◌
altered_group = refl

pub altered_wide : (absorb_on Wide in_groups altered (counted 2 7) (1 ∷ []) ≡ counted 3 7)
    × (absorb_on Wide in_groups altered (counted 2 7) (1 ∷ 4 ∷ 8 ∷ 16 ∷ []) ≡ counted 31 7)
unfolding run step dot clmul clmul_n remainder remainder_n times_x modulus x_inv128 unit ◌⊕◌
altered_wide = (refl, refl)

-- on any key the plain routes are one
pub narrow_is_wide : (sizes xs : List ℕ) (key : ExpandedKey) (held : Counted) → absorb_on Narrow sizes key held xs ≡ absorb_on Wide sizes key held xs
narrow_is_wide sizes xs key held = refl
