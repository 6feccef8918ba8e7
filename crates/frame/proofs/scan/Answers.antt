-- `frame::scan` meets its contract. The loop's invariant: what the whole log scans to is what stands before the place,
-- and then the scan from there. Assumes nothing.
use Prim.Native.Nat.{ℕ, ◌-◌, ◌≤◌}
use mathlib.Core.List.{List}
use mathlib.Core.Path.{◌≡◌, refl, sym, ap, ◌∙◌}
use native.Mathlib.Omega.{arith}
use lib.ListN.{length, take, drop, length-drop}
use lib.Seq.{take_all}
use Rattle.framing.specs.Kinds.{kind_number}
use Rattle.framing.specs.Front.{Front, Whole, front_of, front_told}
use Rattle.framing.proofs.Whole.{is_whole, whole_bounds}
use Rattle.frame.proofs.Turns.{turn_whole, turn_stop, turn_end}
use Rattle.frame.proofs.scan.Goals as goal
use Rattle.frame.proofs.scan.Goals.{In-Ok}

-- what was found is what stands at the place in the log
found : (log : List ℕ) (at : ℕ) {r : Front} → r ≡ front_of (take (length log - at) (drop at log)) → r ≡ front_of (drop at log)
found log at e = e ∙ ap front_of (take_all (length log - at) (drop at log) (rw length-drop (omega arith)))

-- a frame stands there, and lies within the log
module _ (c : In-Ok) where
  whole_there : front_of (drop c.loop-at.at c.args.log.now) ≡ Whole (kind_number c.in-Ok.frame.kind) c.in-Ok.frame.taken
  whole_there = sym (found c.args.log.now c.loop-at.at c.front_of.ensures) ∙ ap front_told c.in-Ok.is

  inside : (32 ≤ c.in-Ok.frame.taken) × (c.in-Ok.frame.taken ≤ length c.args.log.now - c.loop-at.at)
  inside =
      let w = is_whole _ _ _ whole_there in
      ((whole_bounds _ _ _ w).0, rw length-drop at w.inside)

pub overflow_add-at : goal.overflow_add-at
overflow_add-at c = omega (arith, inside (goal.at.overflow_add-at c).In-Ok)

pub loop-at-smaller : goal.loop-at-smaller
loop-at-smaller c = omega (arith, inside (goal.at.loop-at-smaller c).In-Ok)

pub loop-at-preserved : goal.loop-at-preserved
loop-at-preserved c =
    let l = c.loop-at in
    let d = (goal.at.loop-at-preserved c).In-Ok in
    let i = inside d in
    (omega arith, omega arith, turn_whole _ l.at l.frames l.invariant.2 _ _ (whole_there d))

pub returns-in-Err : goal.returns-in-Err
returns-in-Err c =
    let l = c.loop-at in
    let log = c.args.log.now in
    record { scanned = turn_stop log l.at l.frames l.invariant.2 _ (omega arith) (sym (found log l.at c.front_of.ensures) ∙ ap front_told c.in-Err.is); place = refl }

pub returns : goal.returns
returns c =
    let l = c.loop-at in
    record { scanned = turn_end c.args.log.now l.at l.frames l.invariant.2 c.loop-at-test.false; place = refl }
