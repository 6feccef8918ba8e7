-- `khumbuseal::khumbuseal_scan` meets its contract. Assumes nothing.
use mathlib.Core.Path.{◌≡◌, sym, ap, ◌∙◌}
use lib.ListN.{length}
use lib.Seq.{length-take-le}
use Rattle.framing.specs.Scan.{scan_of}
use Rattle.framing.proofs.Longest.{found}
use Rattle.khumbuseal.proofs.frames.khumbuseal_scan.Goals as goal

pub returns : goal.returns
returns c =
    let log = c.args.log.now in
    let p = c.scan-found.ensures.scanned in
    let n : length c.scan-found.result.prefix.now ≡ (scan_of log).taken = ap length p.part_is ∙ length-take-le _ _ (found log).inside in
    sym (λ i. record { taken = n i; frames = p.frames_is i; stop = (c.number.ensures ∙ p.stop_is) i })
