-- `limbs::mul64::dot` meets its contract. Assumes nothing.
use mathlib.Core.Path.{ap, ◌∙◌}
use native.Mathlib.Omega.{arith}
use Rattle.gf2.specs.Carryless.{clmul}
use Rattle.gf2.specs.Polyval.{reduce, x_inv128, dot}
use Rattle.word.specs.Words.{words_of}
use Rattle.limbs.specs.Value.{value}
use Rattle.limbs.specs.Limbs64.{value_of}
use Rattle.limbs.proofs.Pair.{product_lt}
use Rattle.limbs.proofs.Words64.{value_product}
use Rattle.limbs.proofs.mul64.dot.Goals as goal

pub returns : goal.returns
unfolding dot
returns c =
    let small = product_lt c.args.a c.args.b (record { lo = omega arith; hi = omega arith }) (record { lo = omega arith; hi = omega arith }) in
    c.mont_reduce.ensures
    ∙ ap (λ n. words_of (reduce (clmul n x_inv128))) (ap value_of c.karatsuba_mul.ensures ∙ value_product (clmul (value c.args.a) (value c.args.b)) small)
