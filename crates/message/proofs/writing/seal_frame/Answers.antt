-- `message::writing::seal_frame` meets its contract. Assumes nothing.
use mathlib.Core.Path.{refl, ap}
use native.Mathlib.Omega.{arith}
use Rattle.answer.specs.Reasons.{answer_of}
use Rattle.answer.proofs.Reasons.{never_done}
use Rattle.framing.proofs.Rows.{longest_fits}
use Rattle.message.proofs.Told.{passed_on}
use Rattle.message.proofs.Placing.{head_fits, frame_refused, frame_done}
use Rattle.message.proofs.writing.seal_frame.Goals as goal

-- the length field has room for every sealed part
pub header-ad-requires : goal.header-ad-requires
header-ad-requires c = omega (arith, longest_fits)

pub returns-in_err-seal : goal.returns-in_err-seal
returns-in_err-seal c =
    let a = c.args in
    let why = c.in_err-seal.field-0.0 in
    rw (ap answer_of (passed_on c.from_residual.result why c.from_residual.ensures.1))
    (frame_refused a.kind a.key.now a.nonce.now a.text.now a.out.now _ _ _ c.requires.1 c.header-ad.ensures c.in_err-seal.ensures (never_done why))

pub put_head-requires : goal.put_head-requires
put_head-requires c =
    let a = c.args in
    head_fits a.kind a.key.now a.nonce.now a.text.now a.out.now _ _ _ c.requires.1 c.header-ad.ensures c.in_ok-seal.ensures refl _

pub returns : goal.returns
returns c =
    let a = c.args in
    let fits = head_fits a.kind a.key.now a.nonce.now a.text.now a.out.now _ _ _ c.requires.1 c.header-ad.ensures c.in_ok-seal.ensures refl a.out.now in
    frame_done a.kind a.key.now a.nonce.now a.text.now a.out.now _ _ _ c.requires.1 c.header-ad.ensures c.in_ok-seal.ensures _ refl fits.0 c.put_head.ensures
