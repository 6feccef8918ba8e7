-- What it means that a contract leaves no choice. Assumes nothing.
use Rattle.std.specs.Prelude.{ℕ, ◌≡◌, List}
use contract.Lifetimes.{Lfts}
use denote.Triple.Clauses.{AtExit}
use borrow.Fn.Kinds.{ParamKind, ResultKind, Dens, Out, res_t, ended_of}

-- `promise` is a function's `ensures`, of the arguments at entry, the result and the parameters at exit:
-- two answers that meet it on the same arguments are equal
abbrev pub Unique : (n : ℕ) (ps : List (ParamKind n)) (r : ResultKind n) → Out n ps r → Type 0
Unique n ps r promise =
    (κs : Lfts n) (a : Dens κs ps) (x y : (res_t r κs).Denot) (e f : AtExit (ended_of n ps r) κs) → promise κs a x e → promise κs a y f → x ≡ y

-- the same of whatever can be seen of an answer, as where a part that is handed back lies
abbrev pub Fixes : (n : ℕ) (ps : List (ParamKind n)) (r : ResultKind n) → Out n ps r → {T : Type 0} → ((κs : Lfts n) → (res_t r κs).Denot → AtExit (ended_of n ps r) κs → T) → Type 0
Fixes n ps r promise seen =
    (κs : Lfts n) (a : Dens κs ps) (x y : (res_t r κs).Denot) (e f : AtExit (ended_of n ps r) κs) → promise κs a x e → promise κs a y f
    → seen κs x e ≡ seen κs y f

-- and of what stands in a lent buffer afterwards, which `memory` reads off the parameters at exit
abbrev pub UniqueMemory : (n : ℕ) (ps : List (ParamKind n)) (r : ResultKind n) → Out n ps r → ((κs : Lfts n) → AtExit (ended_of n ps r) κs → List ℕ) → Type 0
UniqueMemory n ps r promise memory = Fixes n ps r promise (λ κs x e. memory κs e)
