-- `aes::expansion::rcon` meets its contract. Assumes nothing.
use mathlib.Core.List.{[], ◌∷◌}
use mathlib.Core.Path.{◌≡◌, refl, ap, ◌∙◌}
use Prim.Native.Nat.{◌-◌}
use native.Mathlib.Omega.{arith}
use borrow.Author.Rules.{rules}
use Rattle.octets.specs.Xor.{◌⊕◌}
use Rattle.fips197.specs.KeyExpansion.{power}
use Rattle.aes.proofs.Expanding.{power_lt, power_turn}
use Rattle.aes.proofs.expansion.rcon.Goals as goal

pub loop-k-init : goal.loop-k-init
unfolding power
loop-k-init c = (search rules, search rules, refl)

pub loop-k-preserved : goal.loop-k-preserved
unfolding ◌⊕◌
loop-k-preserved c = let l = c.loop-k in (omega arith, power_lt l.x l._k l.invariant.1 l.invariant.2, power_turn l.x l._k l.invariant.1 l.invariant.2 (omega arith))

pub returns : goal.returns
returns c =
    let l = c.loop-k in
    let e : l._k - 1 ≡ c.args.j - 1 = omega arith in
    λ i. (l.invariant.2 ∙ ap power e) i ∷ 0 ∷ 0 ∷ 0 ∷ []
