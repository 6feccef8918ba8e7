-- What a call leaves in the output, by its answer. Assumes nothing.
use Prim.Native.Nat.{ℕ}
use mathlib.Core.Path.{◌≡◌, ap}
use mathlib.Core.Bool.{cond}
use mathlib.Core.List.{List}
use borrow.Author.Tests.{eq-eqb, ne_eqb}
use Rattle.octets.specs.Places.{over}
use Rattle.sealing.specs.Calls.{written}

module _ (answer : ℕ) (new out : List ℕ) where
  pub written_done : answer ≡ 0 → written answer new out ≡ over new out
  written_done e = ap (λ b. cond b (over new out) out) (eq-eqb answer 0 e)

  pub written_refused : (answer ≡ 0 → ⊥) → written answer new out ≡ out
  written_refused h = ap (λ b. cond b (over new out) out) (ne_eqb answer 0 h)
