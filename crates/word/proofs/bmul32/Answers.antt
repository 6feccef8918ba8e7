-- `word::bmul32` meets its contract. Assumes nothing.
use Rattle.word.proofs.Bmul.{from_lanes, masks32}
use Rattle.word.proofs.bmul32.Goals as goal

pub returns : goal.returns
returns c =
    let z₀ = c.lane32-z0 in
    let z₁ = c.lane32-z1 in
    let z₂ = c.lane32-z2 in
    let z₃ = c.lane32-z3 in
    from_lanes 8 32 masks32 c.args.x c.args.y c.ranges.x.fits c.ranges.y.fits
    z₀.result z₁.result z₂.result z₃.result z₀.ensures z₁.ensures z₂.ensures z₃.ensures
