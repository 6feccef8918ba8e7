-- What the definitions of uniqueness come to, so that none of them can be weakened unseen: a promise that allows everything is unique only where
-- there is nothing to choose, and one that is an equation always is. Assumes nothing.
use Prim.Native.Nat.{ℕ}
use mathlib.Core.Path.{◌≡◌, sym, ◌∙◌}
use mathlib.Core.List.{List}
use contract.Lifetimes.{Lfts}
use denote.Triple.Clauses.{AtExit}
use borrow.Fn.Kinds.{ParamKind, ResultKind, Dens, Out, res_t, ended_of}
use Rattle.logic.specs.Promise.{Unique, Fixes, UniqueMemory}

module _ (n : ℕ) (ps : List (ParamKind n)) (r : ResultKind n) where
  -- the promise that says nothing
  abbrev anything : Out n ps r
  anything κs a x e = Unit {0}

  -- where it is unique, any two answers are equal, whatever was left in memory
  pub no_choice : Unique n ps r anything → (κs : Lfts n) (a : Dens κs ps) (x y : (res_t r κs).Denot) (e f : AtExit (ended_of n ps r) κs) → x ≡ y
  no_choice u κs a x y e f = u κs a x y e f tt tt

  pub no_choice_seen : {T : Type 0} (seen : (κs : Lfts n) → (res_t r κs).Denot → AtExit (ended_of n ps r) κs → T) → Fixes n ps r anything seen
      → (κs : Lfts n) (a : Dens κs ps) (x y : (res_t r κs).Denot) (e f : AtExit (ended_of n ps r) κs) → seen κs x e ≡ seen κs y f
  no_choice_seen seen u κs a x y e f = u κs a x y e f tt tt

  pub no_choice_memory : (memory : (κs : Lfts n) → AtExit (ended_of n ps r) κs → List ℕ) → UniqueMemory n ps r anything memory
      → (κs : Lfts n) (a : Dens κs ps) (x y : (res_t r κs).Denot) (e f : AtExit (ended_of n ps r) κs) → memory κs e ≡ memory κs f
  no_choice_memory memory u κs a x y e f = u κs a x y e f tt tt

  -- a promise that says what the answer is leaves no other
  pub equation_unique : (made : (κs : Lfts n) → Dens κs ps → (res_t r κs).Denot) → Unique n ps r (λ κs a x e. x ≡ made κs a)
  equation_unique made κs a x y e f p q = p ∙ sym q
