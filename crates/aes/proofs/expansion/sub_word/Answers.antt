-- `aes::expansion::sub_word` meets its contract. Assumes nothing.
use Rattle.std.proofs.Common.{◌≡◌, ℕ, [], ◌∷◌, ◌<◌, get_or, sym, ap, ◌∙◌, arith}
use borrow.Author.Rules.{rules}
use Rattle.fips197.specs.Sbox.{sbox}
use Rattle.octets.proofs.Numbers.{cells, cells_all}
use Rattle.aes.proofs.expansion.sub_word.Goals as goal

pub returns : goal.returns
returns c =
    let t = c.args.t in
    let r = c.map.result in
    let each : (k : ℕ) → k < 4 → get_or r k 0 ≡ sbox (get_or t k 0) = λ k h. let called = c.map.ensures.items.at k 0 0 h in search rules in
    sym (cells_all r) ∙ ap (λ n. cells 0 n r) c.map.ensures.items.long
    ∙ (λ i. each 0 (omega arith) i ∷ each 1 (omega arith) i ∷ each 2 (omega arith) i ∷ each 3 (omega arith) i ∷ [])
