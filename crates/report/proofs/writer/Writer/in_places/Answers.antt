-- `Writer::in_places` meets its contract. Assumes nothing.
use Rattle.std.proofs.Common.{ℕ, ◌<◌, sym, subst, arith}
use native.Mathlib.Nat.{one-le-pow}
use lib.Dec.{lit≤}
use Rattle.report.proofs.Writing.{then, adds_as, within}
use Rattle.report.proofs.Lines.{places_row}
use Rattle.report.proofs.writer.Writer.in_places.Goals as goal

pub nonzero_div-m : goal.nonzero_div-m
nonzero_div-m c = subst (λ (n : ℕ). 0 < n) (sym c.pow-unit.ensures) (one-le-pow c.args.places 10 (lit≤ tt))

pub returns : goal.returns
returns c =
    adds_as (places_row c.args.places _ c.args.m c.pow-unit.ensures)
    (within (omega arith) (then (omega arith) (then (omega arith) c.decimal.ensures c.byte.ensures) c.digits.ensures))
