-- `aes::expansion::sub_byte` meets its contract. Assumes nothing.
use mathlib.Core.Path.{ap, ◌∙◌}
use Prim.Native.Nat.{ℕ}
use lib.ListN.{get_or}
use borrow.Author.Rules.{rules}
use Rattle.aes_tables.proofs.Entry.{sbox_at}
use Rattle.aes.proofs.expansion.sub_byte.Goals as goal

pub returns : goal.returns
returns c =
    let table = c.sbox_table.result.now in
    ap (λ (n : ℕ). get_or table n 0) c.from.ensures ∙ sbox_at table c.sbox_table.ensures c.args.b (search rules)
