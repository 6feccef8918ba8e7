-- `aes::rounds::add_round_key` meets its contract. Assumes nothing.
use borrow.Author.Rules.{rules}
use Rattle.octets.specs.Xor.{◌⊕◌}
use Rattle.aes.proofs.Words.{key_law}
use Rattle.aes.proofs.rounds.add_round_key.Goals as goal

pub returns : goal.returns
unfolding ◌⊕◌
returns c = let a = c.args in key_law a.s c.load-k.result a.key.now (search rules) c.load-k.ensures
