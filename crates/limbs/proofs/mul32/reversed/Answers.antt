-- `limbs::mul32::reversed` meets its contract: `map` calls at each place. Assumes nothing.
use Rattle.std.proofs.Common.{◌≡◌, length, sym, ◌∙◌, arith, rules}
use Rattle.gf2.specs.Carryless.{rev}
use Rattle.limbs.proofs.Reversed.{mapped}
use Rattle.limbs.proofs.mul32.reversed.Goals as goal

pub returns : goal.returns
returns g c =
    let made = c.map.ensures.items in
    let long : length c.args.words ≡ g.row.N = search rules in
    mapped (rev 32) c.args.words c.map.result (made.long ∙ sym long) (λ i below. let (p, q, called) = made.at i 0 0 (omega arith) in search (called, rules))
