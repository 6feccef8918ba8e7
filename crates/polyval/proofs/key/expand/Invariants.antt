-- `polyval::key::expand` meets its contract. Assumes nothing.
use Rattle.std.proofs.Common.{◌≡◌, suc, ◌+◌, ◌-◌, ◌*◌}
use lib.Seq.{paste}
use Rattle.field.specs.Element.{value, element}
use Rattle.gf2.specs.Polyval.{dot}
use Rattle.feeding.specs.Key.{power_count, powers_from}
use Rattle.feeding.proofs.Powers.{nth}
use Rattle.polyval.proofs.key.expand.Given as goal

-- as many powers behind the first as turns were made, the last of them, and what they cost
abbrev pub invariant-loop-power : goal.invariant-loop-power
invariant-loop-power l =
    record {
      spent : l.spent ≡ suc l.power-index + 5 * l.power-index;
      last : l.last ≡ element (nth (value l.h) (value l.h) l.power-index);
      powers : l.power-items ≡ paste l.initial.power-items 0 (powers_from (value l.h) (dot (value l.h) (value l.h)) (power_count - 1)) l.power-index;
    }
