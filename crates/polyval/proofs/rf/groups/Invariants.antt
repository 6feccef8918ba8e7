-- `polyval::rf::groups` meets its contract. Assumes nothing.
use Rattle.std.proofs.Common.{◌≡◌, ◌*◌, ◌/◌, ◌%◌, length}
use Rattle.rfc8452.specs.Blocks.{blocks}
use Rattle.feeding.specs.Formulas.{groups_of}
use Rattle.polyval.proofs.rf.groups.Given as goal

-- the groups that are left, from here, are all of them from the start
abbrev pub invariant-loop-part : goal.invariant-loop-part
invariant-loop-part l =
    record {
      size : l.part-iterator.size ≡ l.n * 16;
      filled : length (blocks l.part-iterator.rest.now) % l.n ≡ 0;
      left : groups_of (length (blocks l.part-iterator.rest.now) / l.n) l.n l.fn.powers l.held (blocks l.part-iterator.rest.now) ≡ groups_of (length (blocks l.s) / l.n) l.n l.fn.powers l.fn.acc (blocks l.s);
    }
