-- `aes::rounds::lookup` meets its contract. Assumes nothing.
use Prim.Native.Nat.{◌%◌}
use borrow.Author.Rules.{rules}
use Rattle.aes_tables.proofs.Entry.{word_at}
use Rattle.aes.proofs.rounds.lookup.Goals as goal

pub returns : goal.returns
returns c = word_at c.word_table.result.now c.word_table.ensures (c.args.x % 256) (search rules)
