-- `polyval::rf::block_count` meets its contract. Assumes nothing.
use Rattle.std.proofs.Common.{sym, ◌∙◌, arith}
use Rattle.rfc8452.proofs.Parts.{blocks-length}
use Rattle.polyval.proofs.rf.block_count.Goals as goal

pub returns : goal.returns
returns c = c.div_ceil.ensures ∙ omega arith ∙ sym (blocks-length c.args.s.now)
