-- `polyval::block::pasted` meets its contract. Assumes nothing.
use native.Mathlib.Omega.{arith}
use Rattle.octets.proofs.Copies.{copied-within}
use Rattle.polyval.proofs.block.pasted.Goals as goal

pub returns-then-at-le16 : goal.returns-then-at-le16
returns-then-at-le16 c = copied-within c.args.s.now c.args.b c.args.at (omega arith) c.copy.ensures
