-- `message::write` meets its contract. Assumes nothing.
use Prim.Native.Nat.{ℕ}
use mathlib.Core.Path.{◌≡◌, refl, sym, ap, ◌∙◌}
use mathlib.Core.List.{List}
use lib.ListN.{length}
use Rattle.answer.specs.Reasons.{answer_of}
use Rattle.answer.proofs.Reasons.{never_done}
use Rattle.sealing.specs.Calls.{seal_answer}
use Rattle.messaging.specs.Write.{plain_answer, written_told}
use Rattle.messaging.proofs.Writing.{passed_short}
use Rattle.message.proofs.Told.{passed_on}
use Rattle.message.proofs.Placing.{plain_refused, lengths_refuse, lengths_pass, sealing_refused, written_done}
use Rattle.message.proofs.write.Goals as goal
use Rattle.message.proofs.write.Goals.{In_ok-check_plain}

pub returns-in_err-check_plain : goal.returns-in_err-check_plain
returns-in_err-check_plain c =
    let a = c.args in
    let why = c.in_err-check_plain.field-0.0 in
    rw (ap written_told (passed_on c.from_residual.result why c.from_residual.ensures.1))
    (plain_refused a.kind a.key.now a.nonce.now a.plaintext.now a.out.now _ c.in_err-check_plain.ensures (never_done why))

-- the room is what stands behind the first 16 bytes
in_room : (key nonce text : List ℕ) {n m : ℕ} → n ≡ m → seal_answer (length key) (length nonce) 4 (length text) n ≡ seal_answer (length key) (length nonce) 4 (length text) m
in_room key nonce text e = ap (seal_answer (length key) (length nonce) 4 (length text)) e

-- what is asked first has passed
plain_passed : (c : In_ok-check_plain) → plain_answer c.args.kind c.args.plaintext.now ≡ 0
plain_passed c = sym c.check_plain.ensures ∙ ap answer_of c.in_ok-check_plain.was

pub returns-in_err-check_seal : goal.returns-in_err-check_seal
returns-in_err-check_seal c =
    let a = c.args in
    let why = c.in_err-check_seal.field-0.0 in
    let passed = plain_passed (goal.at.returns-in_err-check_seal c).In_ok-check_plain in
    rw (ap written_told (passed_on c.from_residual-in_err-check_seal.result why c.from_residual-in_err-check_seal.ensures.1))
    (lengths_refuse a.kind a.key.now a.nonce.now a.plaintext.now a.out.now passed _ (c.in_err-check_seal.ensures ∙ in_room a.key.now a.nonce.now a.plaintext.now c.saturating_sub-room.ensures) (never_done why))

pub seal_frame-requires : goal.seal_frame-requires
seal_frame-requires c =
    let a = c.args in
    let passed = plain_passed (goal.at.seal_frame-requires c).In_ok-check_plain in (
      passed_short a.kind a.plaintext.now passed,
      lengths_pass a.kind a.key.now a.nonce.now a.plaintext.now a.out.now passed (sym (c.in_ok-check_seal.ensures ∙ in_room a.key.now a.nonce.now a.plaintext.now c.saturating_sub-room.ensures)),
    )

pub returns-in_err-seal_frame : goal.returns-in_err-seal_frame
returns-in_err-seal_frame c =
    let a = c.args in
    let why = c.in_err-seal_frame.field-0.0 in
    let passed = plain_passed (goal.at.returns-in_err-seal_frame c).In_ok-check_plain in
    rw (ap written_told (passed_on c.from_residual-in_err-seal_frame.result why c.from_residual-in_err-seal_frame.ensures.1))
    (sealing_refused a.kind a.key.now a.nonce.now a.plaintext.now a.out.now passed _ _ c.in_err-seal_frame.ensures (never_done why))

pub returns : goal.returns
returns c =
    let a = c.args in
    let passed = plain_passed (goal.at.returns c).In_ok-check_plain in
    written_done a.kind a.key.now a.nonce.now a.plaintext.now a.out.now passed _ _ c.in_ok-seal_frame.ensures refl
