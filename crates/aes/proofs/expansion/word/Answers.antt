-- `aes::expansion::word` meets its contract. Assumes nothing.
use Rattle.std.proofs.Common.{◌≡◌, suc, ◌+◌, ◌-◌, ◌*◌, [], ◌∷◌, length, drop, get_or, sym, ◌∙◌, arith}
use Rattle.std.proofs.Math.Seq.{take-take}
use Rattle.octets.proofs.Numbers.{cells_part}
use Rattle.aes.proofs.expansion.word.Goals as goal

pub returns : goal.returns
returns c =
    let w = c.args.w.now in
    let at = 4 * c.args.i in
    let front = rw c.unwrap.ensures at c.first_chunk.ensures.cases in
    let one : suc at ≡ at + 1 = omega arith in
    let two : suc (suc at) ≡ at + 2 = omega arith in
    let three : suc (suc (suc at)) ≡ at + 3 = omega arith in
    front.same ∙ take-take 4 (length w - at) (drop at w) (omega (arith, c.requires)) ∙ sym (cells_part at 4 w c.requires)
    ∙ (λ i. get_or w at 0 ∷ get_or w (one i) 0 ∷ get_or w (two i) 0 ∷ get_or w (three i) 0 ∷ [])
