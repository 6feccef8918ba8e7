-- `polyval::soft::absorb_by` meets its contract. Assumes nothing.
use Rattle.std.proofs.Common.{◌≡◌, ◌*◌, ◌^◌, ◌<◌, drop}
use Rattle.field.specs.Element.{value, element}
use Rattle.rfc8452.specs.Machine.{run}
use Rattle.rfc8452.specs.Blocks.{blocks}
use Rattle.polyval.proofs.soft.absorb_by.Given as goal

-- what is left, run from here, is what all of s is from the start
abbrev pub invariant-loop-block : goal.invariant-loop-block
invariant-loop-block g l =
    record {
      fits : value l.a < 2 ^ 128;
      an_element : l.a ≡ element (value l.a);
      left : run (value l.h) (value l.a) (blocks (drop (l.block-index * 16) l.s)) ≡ run (value l.h) (value l.fn.acc) (blocks l.s);
    }
