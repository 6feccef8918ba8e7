-- `word::bmul64` meets its contract. Assumes nothing.
use Rattle.word.proofs.Bmul.{from_lanes, masks64}
use Rattle.word.proofs.bmul64.Goals as goal

pub returns : goal.returns
returns c =
    let z₀ = c.lane64-z0 in
    let z₁ = c.lane64-z1 in
    let z₂ = c.lane64-z2 in
    let z₃ = c.lane64-z3 in
    from_lanes 16 64 masks64 c.args.x c.args.y c.ranges.x.fits c.ranges.y.fits
    z₀.result z₁.result z₂.result z₃.result z₀.ensures z₁.ensures z₂.ensures z₃.ensures
