-- `limbs::mul32::karatsuba_mul32` meets its contract. Assumes nothing.
use Rattle.std.proofs.Common.{map, ap, ap₂, ◌∙◌, arith}
use Rattle.octets.specs.Xor.{◌⊕◌}
use Rattle.gf2.specs.Carryless.{clmul, rev}
use Rattle.limbs.specs.Limbs32.{columns_of, product_of32}
use Rattle.limbs.proofs.Words32.{assembled, product_words, quarters_value}
use Rattle.limbs.proofs.mul32.karatsuba_mul32.Goals as goal

pub returns : goal.returns
unfolding ◌⊕◌
returns c =
    let h = c.args.a in
    let y = c.args.b in
    let h-cut = c.cut-h.ensures in
    let y-cut = c.cut-y.ensures in
    let z = c.multiply_columns-z.ensures ∙ ap₂ columns_of h-cut y-cut in
    let h-rev = c.reversed.ensures ∙ ap (map (rev 32)) h-cut in
    let y-rev = c.reversed-2.ensures ∙ ap (map (rev 32)) y-cut in
    let u = c.reversed-u.ensures ∙ ap (map (rev 32)) (c.multiply_columns.ensures ∙ ap₂ columns_of h-rev y-rev) in
    (λ i. assembled (z i) (u i))
    ∙ product_words _ _ _ _ _ _ _ _
    (record { w0 = omega arith; w1 = omega arith; w2 = omega arith; w3 = omega arith })
    (record { w0 = omega arith; w1 = omega arith; w2 = omega arith; w3 = omega arith })
    ∙ ap₂ (λ m n. product_of32 (clmul m n)) (quarters_value h) (quarters_value y)
