-- `message::writing::put_head` meets its contract. Assumes nothing.
use native.Mathlib.Omega.{arith}
use Rattle.message.proofs.Placing.{head_put}
use Rattle.message.proofs.writing.put_head.Goals as goal

pub returns : goal.returns
returns c = head_put c.args.ad c.args.nonce.now c.args.out.now _ _ (omega arith) c.requires.0 c.requires.1 c.copy.ensures c.copy-2.ensures
