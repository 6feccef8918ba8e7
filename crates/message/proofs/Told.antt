-- What a call of the crate hands on. Assumes nothing.
use mathlib.Core.Path.{◌≡◌, ap}
use Rattle.std.specs.Prelude.{Result, Ok, Err}
use Rattle.std.specs.Result.{IsErrAnd}
use Rattle.answer.specs.declared.Reason.{Reason}

-- what `?` hands on is the reason itself
pub passed_on : {T : Type 0} (r : Result T Reason) (x : Reason) → IsErrAnd r (λ e. e ≡ x) → r ≡ Err x
passed_on (Ok y) x p = absurd p
passed_on (Err y) x p = ap Err p
