-- `frame::position::is_in_range` meets its contract. Assumes nothing.
use borrow.Author.Rules.{rules}
use mathlib.Core.Path.{◌≡◌, sym, ap, ◌∙◌}
use mathlib.Core.Bool.{Bool, true}
use lib.IntN.{ℤ}
use mir.Facts.{to_z-of_z}
use mir.Syntax.{w32}
use mir.Val.{to_z, of_z, SFits}
use Rattle.framing.specs.Position.{within, lat_min, lat_max, lon_min, lon_max, alt_min, alt_max}
use Rattle.frame.proofs.position.is_in_range.Goals as goal
use Rattle.frame.proofs.position.is_in_range.Goals.{then-is_within, else-is_within}

-- what a test of a field's bits says of the field
of_bits : (lo hi z : ℤ) {r : Bool} → SFits w32 z → r ≡ within lo hi (to_z w32 (of_z w32 z)) → within lo hi z ≡ r
of_bits lo hi z f e = sym (e ∙ ap (within lo hi) (to_z-of_z f))

pub returns-then-is_within-2 : goal.returns-then-is_within-2
returns-then-is_within-2 c =
    let p = c.args.p in
    let altitude = of_bits alt_min alt_max p.alt (search rules) c.is_within-then-is_within-2.ensures in
    elim c.if-is_within.branch [
      | then-is_within w ↦
          let latitude : within lat_min lat_max p.lat ≡ true = of_bits lat_min lat_max p.lat (search rules) w.if-is_within.ensures in
          let longitude : within lon_min lon_max p.lon ≡ true = of_bits lon_min lon_max p.lon (search rules) w.is_within-then-is_within.ensures ∙ sym w.value-is ∙ c.if-is_within-2.true in
          sym (rw (latitude, longitude) altitude)
      | else-is_within w ↦ cc
    ]
