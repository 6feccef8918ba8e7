-- Sizes of groups: those that the powers of a key suffice for, and those that a way of taking blocks goes through. Assumes nothing.
use Rattle.std.specs.Prelude.{ℕ, ◌<◌, ◌≤◌, List, [], ◌∷◌}
use Rattle.feeding.specs.Key.{power_count}
use Rattle.feeding.specs.Formulas.{in_groups, alone}
use Rattle.polyval.specs.declared.rf.Grouping.{Grouping}
use Rattle.polyval.specs.declared.rf.Grouping.TheVariants.{InGroups, Alone}

abbrev pub Fits : List ℕ → Type 0
Fits [] = Unit {0}
Fits (n ∷ ns) = (0 < n) × (n ≤ power_count) × Fits ns

abbrev pub sizes_of : Grouping → List ℕ
sizes_of InGroups = in_groups
sizes_of Alone = alone
