-- What a log's length comes to, and what an answer to it says. Assumes nothing.
use Prim.Native.Nat.{ℕ, ◌≤◌}
use mathlib.Core.Path.{◌≡◌, refl}
use mathlib.Core.Bool.{Bool, true, false, cond}
use native.Mathlib.Omega.{arith}
use borrow.Author.Tests.{ltb-false}
use lib.Dec.{ltb}
use Rattle.answer.specs.Answers.{done, log_too_long}
use Rattle.sealing.specs.Limits.{max_log}
use Rattle.sealing.specs.Calls.{log_answer}

-- a log that is answered 0 is not too long
pub not_too_long : (len : ℕ) → log_answer len ≡ done → len ≤ max_log
not_too_long len = by_test (ltb max_log len) refl
  where
    by_test : (b : Bool) → ltb max_log len ≡ b → cond b log_too_long done ≡ done → len ≤ max_log
    by_test true e h = absurd (omega arith)
    by_test false e h = ltb-false max_log len e
