-- `report::position_line` meets its contract. Assumes nothing.
use Rattle.std.proofs.Common.{rules, arith, ℤ, sym, ◌∙◌}
use Rattle.reporting.specs.Lines.{angles_of, height_of}
use Rattle.report.proofs.Writing.{then, adds_as, by_bits, both_by_bits, whole}
use Rattle.report.proofs.Lines.{position_row}
use Rattle.report.proofs.position_line.Goals as goal

pub returns-clause-line : goal.returns-clause-line
returns-clause-line c =
    let angles = both_by_bits angles_of {y = c.args.p.lat} {z = c.args.p.lon} (search rules) (search rules) c.angles.ensures in
    let height = by_bits (λ (z : ℤ). height_of z c.args.p.time) {z = c.args.p.alt} (search rules) c.height.ensures in
    whole (sym c.is_enough.ensures ∙ c.if-not-is_enough.false) c.new-line.ensures.bytes c.new-line.ensures.nothing (search rules)
    (adds_as (position_row c.args.frame.offset c.args.frame.kind c.args.p)
    (then (omega arith) (then (omega arith) (then (omega arith) (then (omega arith) c.head.ensures c.word.ensures) angles) height) c.byte.ensures))
