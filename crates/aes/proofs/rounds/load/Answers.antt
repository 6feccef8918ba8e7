-- `aes::rounds::load` meets its contract. Assumes nothing.
use mathlib.Core.Path.{◌≡◌, ap, sym, ◌∙◌}
use mathlib.Core.List.{List, []}
use Prim.Native.Nat.{ℕ, ◌<◌}
use lib.ListN.{length, get_or}
use borrow.Author.Rules.{rules}
use Rattle.octets.proofs.Numbers.{cells, cells_all}
use Rattle.aes.proofs.Words.{beside, in_fours, read_back}
use Rattle.aes.proofs.rounds.load.Goals as goal

pub returns : goal.returns
returns c =
    let b = c.args.block.now in
    let long : length b ≡ 16 = search rules in
    let fours = in_fours b long c.as_chunks.ensures.front in
    let small : (i : ℕ) → get_or b i 0 < 256 = λ i. search rules in
    (λ i. beside (read_back b small 0 (ap (λ (ws : List (List ℕ)). get_or ws 0 []) fours) c.from_le_bytes.ensures i)
    (read_back b small 4 (ap (λ (ws : List (List ℕ)). get_or ws 1 []) fours) c.from_le_bytes-2.ensures i)
    (read_back b small 8 (ap (λ (ws : List (List ℕ)). get_or ws 2 []) fours) c.from_le_bytes-3.ensures i)
    (read_back b small 12 (ap (λ (ws : List (List ℕ)). get_or ws 3 []) fours) c.from_le_bytes-4.ensures i))
    ∙ ap (λ n. cells 0 n b) (sym long) ∙ cells_all b
