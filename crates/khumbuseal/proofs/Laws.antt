-- What a call leaves in the cells of a C caller. Assumes nothing.
use Prim.Native.Nat.{ℕ}
use mathlib.Core.Path.{◌≡◌, sym, ap}
use mathlib.Core.Bool.{Bool, cond}
use mathlib.Core.List.{List}
use borrow.Author.Tests.{ne_eqb}
use Rattle.answer.specs.Answers.{done}
use Rattle.khumbuseal.specs.Cells.{stored}

-- a cell is written on answer 0 alone
pub stored_refused : (answer : ℕ) (new old : List ℕ) → (answer ≡ done → ⊥) → old ≡ stored answer new old
stored_refused answer new old e = sym (ap (λ (b : Bool). cond b new old) (ne_eqb answer done e))
