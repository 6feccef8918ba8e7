-- `limbs::mul32::dot32` meets its contract. Assumes nothing.
use mathlib.Core.Path.{ap, ◌∙◌}
use native.Mathlib.Omega.{arith}
use Rattle.gf2.specs.Carryless.{clmul}
use Rattle.gf2.specs.Polyval.{reduce, x_inv128, dot}
use Rattle.word.specs.Words.{words_of}
use Rattle.limbs.specs.Value.{value}
use Rattle.limbs.specs.Limbs32.{value_of32}
use Rattle.limbs.proofs.Pair.{product_lt}
use Rattle.limbs.proofs.Words32.{value_product}
use Rattle.limbs.proofs.mul32.dot32.Goals as goal

pub returns : goal.returns
unfolding dot
returns c =
    let small = product_lt c.args.a c.args.b (record { lo = omega arith; hi = omega arith }) (record { lo = omega arith; hi = omega arith }) in
    c.mont_reduce32.ensures
    ∙ ap (λ n. words_of (reduce (clmul n x_inv128))) (ap value_of32 c.karatsuba_mul32.ensures ∙ value_product (clmul (value c.args.a) (value c.args.b)) small)
