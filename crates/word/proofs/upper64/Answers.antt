-- `word::upper64` meets its contract: Reverse's `upper_half` at 64 bits. Assumes nothing.
use Rattle.std.proofs.Common.{◌/◌, ◌%◌, ◌^◌, sym, ap, ◌∙◌, ap₂}
use Rattle.gf2.specs.Carryless.{clmul, rev}
use Rattle.gf2.proofs.Reverse.{upper_half}
use Rattle.word.proofs.upper64.Goals as goal

pub returns : goal.returns
returns c =
    ap (λ n. n / 2)
    (c.reverse64-3.ensures
    ∙ ap (rev 64) (c.bmul64.ensures ∙ ap₂ (λ p q. clmul p q % 2 ^ 64) c.reverse64.ensures c.reverse64-2.ensures))
    ∙ sym (upper_half 64 c.args.x c.args.y c.ranges.x.fits c.ranges.y.fits)
