-- `aes::rounds::last_column` meets its contract. Assumes nothing.
use mathlib.Core.List.{[], ◌∷◌}
use mathlib.Core.Path.{refl, ap, ◌∙◌}
use borrow.Author.Rules.{rules}
use Rattle.std.specs.Int.{w32}
use Rattle.fips197.specs.Sbox.{sbox}
use Rattle.octets.proofs.Endian.{le_joined}
use Rattle.aes.proofs.Words.{row0, row1, row2, row3}
use Rattle.aes.proofs.rounds.last_column.Goals as goal

pub returns : goal.returns
returns c =
    let a = c.args in
    (le_joined w32 _ refl (search rules, (search rules, (search rules, (search rules, tt)))) c.from_le_bytes.ensures).back
    ∙ (λ i. (c.sub.ensures ∙ ap sbox (row0 a.a)) i ∷ (c.sub-2.ensures ∙ ap sbox (row1 a.b)) i
    ∷ (c.sub-3.ensures ∙ ap sbox (row2 a.c)) i ∷ (c.sub-4.ensures ∙ ap sbox (row3 a.d)) i ∷ [])
