-- `message::read` meets its contract. Assumes nothing.
use mathlib.Core.Path.{sym, ap}
use Rattle.messaging.specs.Reading.{reading_told}
use Rattle.message.proofs.Told.{passed_on}
use Rattle.message.proofs.Delivery.{stops}
use Rattle.message.proofs.read.Goals as goal

pub returns-in_err-whole : goal.returns-in_err-whole
returns-in_err-whole c =
    let a = c.args in
    rw (ap reading_told (passed_on c.from_residual.result c.in_err-whole.field-0.0 c.from_residual.ensures.1)) (stops a.key.now a.s.now a.out.now _ (sym c.in_err-whole.ensures))
