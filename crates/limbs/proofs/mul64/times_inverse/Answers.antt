-- `limbs::mul64::times_inverse` meets its contract. Assumes nothing.
use mathlib.Core.Path.{refl, sym}
use Rattle.octets.specs.Xor.{◌⊕◌}
use Rattle.gf2.specs.Polyval.{x_inv64}
use Rattle.gf2.proofs.Tail.{tail_low, tail_high}
use Rattle.limbs.proofs.mul64.times_inverse.Goals as goal

pub returns : goal.returns
unfolding ◌⊕◌ x_inv64
returns c =
    let v = c.args.v in
    λ i. record { lo = sym (tail_low 64 63 62 57 refl refl refl v) i; hi = sym (tail_high 64 63 62 57 refl refl refl v) i }
