-- "The first that applies is the answer, and no other" (document 01, "Answers"). Assumes nothing.
use Rattle.std.specs.Prelude.{ℕ, Bool, cond, List, [], ◌∷◌, eqb}

-- a reason to refuse: a test, and the number that answers where it holds
pub record Refusal : Type 0 where
  pub test : Bool
  pub number : ℕ

infix 68 ◌⇒◌
abbrev pub ◌⇒◌ : Bool → ℕ → Refusal
t ⇒ n = record { test = t; number = n }

-- the number of the first test that holds; 0, done, where none does
abbrev pub first : List Refusal → ℕ
first [] = 0
first (r ∷ rs) = cond r.test r.number (first rs)

-- "9, 10, 11, 12, then opening, then 13": one call's order after another's. The first that refuses answers
infixr 60 ◌then◌
abbrev pub ◌then◌ : ℕ → ℕ → ℕ
a then b = cond (eqb a 0) b a
