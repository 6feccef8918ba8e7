-- `limbs::mul32::times_inverse32` meets its contract. Assumes nothing.
use Rattle.std.proofs.Common.{[], ◌∷◌, refl, sym}
use Rattle.octets.specs.Xor.{◌⊕◌}
use Rattle.gf2.proofs.Tail.{tail_low, tail_high}
use Rattle.limbs.specs.Limbs32.{tail32}
use Rattle.limbs.proofs.mul32.times_inverse32.Goals as goal

pub returns : goal.returns
unfolding ◌⊕◌ tail32
returns c =
    let low = sym (tail_low 32 31 30 25 refl refl refl c.args.v) in
    let high = sym (tail_high 32 31 30 25 refl refl refl c.args.v) in
    λ i. low i ∷ high i ∷ []
