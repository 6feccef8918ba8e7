-- `siv_parts::counter::counter_block` meets its contract. Assumes nothing.
use Rattle.std.proofs.Common.{refl}
use Rattle.rfc8452.specs.Counter.{counter_block}
use Rattle.siv_parts.proofs.counter.counter_block.Goals as goal

pub returns : goal.returns
unfolding counter_block
returns c = refl
