-- `polyval::rf::group` meets its contract. Assumes nothing.
use Rattle.std.proofs.Common.{◌≡◌, ◌≤◌, ◌<◌, ◌^◌, length, take}
use Rattle.field.specs.Element.{value}
use Rattle.field.proofs.Aggregate.{rf_adds}
use Rattle.rfc8452.specs.Blocks.{blocks}
use Rattle.feeding.specs.Key.{power_count}
use Rattle.feeding.specs.Formulas.{paired, joining}
use Rattle.polyval.proofs.rf.group.Given as goal

-- a power for each block that is left; these added to the sum are all of s added to the first one
abbrev pub invariant-loop-part : goal.invariant-loop-part
invariant-loop-part l =
    record {
      sixteen : l.part-iterator.a.size ≡ 16;
      few : length (blocks l.part-iterator.a.rest.now) ≤ power_count;
      met : l.part-iterator.b.iter.rest.now ≡ take (length (blocks l.part-iterator.a.rest.now)) l.fn.powers;
      fits : value l.held < 2 ^ 128;
      left : rf_adds (paired l.fn.powers (joining (value l.held) (blocks l.part-iterator.a.rest.now))) l.sum ≡ rf_adds (paired l.fn.powers (joining (value l.initial.held) (blocks l.s))) l.initial.sum;
    }
