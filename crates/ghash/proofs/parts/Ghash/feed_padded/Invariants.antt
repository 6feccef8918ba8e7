-- `ghash::parts::Ghash::feed_padded` meets its contract. Assumes nothing.
use mathlib.Core.Path.{◌≡◌}
use mathlib.Core.List.{map}
use Rattle.field.specs.Element.{value, element}
use Rattle.rfc8452.specs.Machine.{run}
use Rattle.rfc8452.specs.Blocks.{blocks}
use Rattle.rfc8452.specs.AppendixA.{reversed}
use Rattle.ghash.proofs.parts.Ghash.feed_padded.Given as goal

-- what is left, run from here, is what all of s is from the start
abbrev pub invariant-loop-part : goal.invariant-loop-part
invariant-loop-part l =
    record {
      sixteen : l.part-iterator.size ≡ 16;
      an_element : l.acc ≡ element (value l.acc);
      left : run (value l.self.key) (value l.acc) (map reversed (blocks l.part-iterator.rest.now)) ≡ run (value l.self.key) (value l.self.acc) (map reversed (blocks l.s));
    }
