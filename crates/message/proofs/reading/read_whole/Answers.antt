-- `message::reading::read_whole` meets its contract. Assumes nothing.
use Prim.Native.Nat.{ℕ, ◌+◌, ◌-◌, ◌≤◌}
use mathlib.Core.Path.{◌≡◌, refl, sym, ap, ◌∙◌}
use mathlib.Core.List.{List, ◌++◌}
use native.Mathlib.Omega.{arith}
use lib.ListN.{length, take, drop, length-append}
use lib.Seq.{length-take-le, take_at}
use Rattle.answer.proofs.Reasons.{never_done}
use Rattle.framing.specs.Kinds.{kind_number, is_allowed}
use Rattle.framing.proofs.Whole.{is_whole}
use Rattle.messaging.specs.Parts.{opened_in}
use Rattle.messaging.specs.Reading.{reading_told}
use Rattle.messaging.proofs.Reading.{least, text_length, may_stand}
use Rattle.message.proofs.Told.{passed_on}
use Rattle.message.proofs.Delivery.{lengths_refuse, lengths_pass, refused_opening, aside_answer, aside_text, delivered}
use Rattle.message.proofs.reading.read_whole.Goals as goal
use Rattle.message.proofs.reading.read_whole.Goals.{In_ok-check_open, In_ok-open_sealed}

pub overflow_sub-n : goal.overflow_sub-n
overflow_sub-n c = (least c.args.key.now c.args.s.now _ _ c.requires).0

pub returns-in_err-check_open : goal.returns-in_err-check_open
returns-in_err-check_open c =
    let a = c.args in
    let why = c.in_err-check_open.field-0.0 in
    rw (ap reading_told (passed_on c.from_residual.result why c.from_residual.ensures.1))
    (lengths_refuse a.key.now a.s.now a.out.now _ _ c.requires _ c.in_err-check_open.ensures (never_done why))

-- the output has room
roomy : (c : In_ok-check_open) → c.args.whole.taken - 32 ≤ length c.args.out.now
roomy c = let a = c.args in lengths_pass a.key.now a.s.now a.out.now (kind_number a.whole.kind) a.whole.taken c.requires (sym c.in_ok-check_open.ensures)

pub slice_bounds-plain-end : goal.slice_bounds-plain-end
slice_bounds-plain-end c = omega (arith, c.scratch-plain.ensures, (least c.args.key.now c.args.s.now _ _ c.requires).1)

pub slice_bounds-open_sealed-end : goal.slice_bounds-open_sealed-end
slice_bounds-open_sealed-end c =
    let l = least c.args.key.now c.args.s.now _ _ c.requires in
    sym (length-take-le (c.args.whole.taken - 32) c.scratch-plain.result (omega (arith, c.scratch-plain.ensures)))

pub open_sealed-requires : goal.open_sealed-requires
open_sealed-requires c = let w = is_whole _ _ _ c.requires in (w.taken_is, w.inside)

pub returns-in_err-open_sealed : goal.returns-in_err-open_sealed
returns-in_err-open_sealed c =
    let a = c.args in
    let why = c.in_err-open_sealed.field-0.0 in
    let long = c.scratch-plain.ensures in
    rw (ap reading_told (passed_on c.from_residual-in_err-open_sealed.result why c.from_residual-in_err-open_sealed.ensures.1))
    (refused_opening a.key.now a.s.now a.out.now _ _ c.requires _
    (aside_answer a.key.now a.s.now a.out.now _ _ c.requires c.scratch-plain.result _ _ (omega arith) c.in_err-open_sealed.ensures (roomy (goal.at.returns-in_err-open_sealed c).In_ok-check_open))
    (never_done why))

-- the part that was opened into holds the plaintext
module _ (c : In_ok-open_sealed) where
  abbrev n : ℕ
  n = c.args.whole.taken - 32

  abbrev plain : List ℕ
  plain = c.open_sealed.new.out ++ drop n c.scratch-plain.result

  abbrev text : List ℕ
  text = opened_in c.args.key.now c.args.s.now

  text-n : length text ≡ n
  text-n = text_length c.args.key.now c.args.s.now _ _ c.requires

  opened-is : c.open_sealed.new.out ≡ text
  opened-is =
      let a = c.args in
      let long = c.scratch-plain.ensures in
      aside_text a.key.now a.s.now a.out.now _ _ c.requires c.scratch-plain.result _ _ (omega arith) c.in_ok-open_sealed.ensures refl

  plain-is : take n plain ≡ text
  plain-is = ap (λ x. take n (x ++ drop n c.scratch-plain.result)) opened-is ∙ take_at text _ n text-n

  plain-long : n ≤ length plain
  plain-long = rw length-append (omega (arith, ap length opened-is, text-n))

pub slice_bounds-plain-end-2 : goal.slice_bounds-plain-end-2
slice_bounds-plain-end-2 c = plain-long (goal.at.slice_bounds-plain-end-2 c).In_ok-open_sealed

pub slice_bounds-deliver-end : goal.slice_bounds-deliver-end
slice_bounds-deliver-end c = let e = (goal.at.slice_bounds-deliver-end c).In_ok-open_sealed in sym (length-take-le (n e) (plain e) (plain-long e))

pub deliver-requires : goal.deliver-requires
deliver-requires c =
    let e = (goal.at.deliver-requires c).In_ok-open_sealed in
    let a = c.args in
    let l : length (take (n e) (plain e)) ≡ n e = ap length (plain-is e) ∙ text-n e in
    (ap (λ x. is_allowed (kind_number a.whole.kind) (length x + 16)) (plain-is e) ∙ may_stand a.key.now a.s.now _ _ c.requires, omega (arith, roomy (goal.at.deliver-requires c).In_ok-check_open))

pub returns : goal.returns
returns c =
    let e = (goal.at.returns c).In_ok-open_sealed in
    let a = c.args in
    let d = c.deliver.ensures in
    let long = c.scratch-plain.ensures in
    delivered a.key.now a.s.now a.out.now _ _ c.requires _ _ _
    (sym (aside_answer a.key.now a.s.now a.out.now _ _ c.requires c.scratch-plain.result _ _ (omega arith) c.in_ok-open_sealed.ensures (roomy (goal.at.returns c).In_ok-check_open)))
    (plain-is e) d.answer d.memory
