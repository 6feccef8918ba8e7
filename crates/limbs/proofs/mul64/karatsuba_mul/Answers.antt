-- `limbs::mul64::karatsuba_mul` meets its contract. Assumes nothing.
use Rattle.std.proofs.Common.{map, ap, ◌∙◌, arith}
use Rattle.octets.specs.Xor.{◌⊕◌}
use Rattle.gf2.specs.Carryless.{rev}
use Rattle.limbs.specs.Limbs64.{columns_of}
use Rattle.limbs.proofs.Words64.{assembled, product_words}
use Rattle.limbs.proofs.mul64.karatsuba_mul.Goals as goal

pub returns : goal.returns
unfolding ◌⊕◌
returns c =
    let a = c.args.a in
    let b = c.args.b in
    let reversed = c.multiply_limbs.ensures ∙ (λ i. columns_of (c.reverse64-h0r.ensures i) (c.reverse64-h1r.ensures i) (c.reverse64-y0r.ensures i) (c.reverse64-y1r.ensures i)) in
    let u = c.reversed_columns-u.ensures ∙ ap (map (rev 64)) reversed in
    (λ i. assembled (c.multiply_limbs-z.ensures i) (u i)) ∙ product_words a.lo a.hi b.lo b.hi (omega arith) (omega arith) (omega arith) (omega arith)
