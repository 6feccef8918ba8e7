-- What hashing leaves in a C caller's cells. Assumes nothing.
use Rattle.std.specs.Prelude.{ℕ, ◌≡◌, cond, List, eqb}
use Rattle.feeding.specs.declared.Route.{Route}
use Rattle.feeding.specs.declared.Route.TheVariants.{Wide, Narrow, Rf}
use Rattle.feeding.specs.Answers.{FedAnswer, JoinAnswer}
use Rattle.record.specs.Bytes.{record_bytes}
use Rattle.khumbuseal.specs.Cells.{stored}

-- the route is a number: 1 narrow, 2 R/F, any other wide
abbrev pub route_of : ℕ → Route
route_of n = cond (eqb n 1) Narrow (cond (eqb n 2) Rf Wide)

-- a call that makes a record: its result, the record's bytes after it, and the multiplies
pub record Stores (made : FedAnswer) (before : List ℕ) (r : ℕ) (after : List ℕ) (multiplies : ℕ) : Type 0 where
  pub answer : r ≡ made.answer
  pub memory : after ≡ stored made.answer (record_bytes made.hash) before
  pub count : multiplies ≡ made.multiplies

-- joining: the same, with its dots
pub record Joins (made : JoinAnswer) (before : List ℕ) (r : ℕ) (after : List ℕ) (dots : ℕ) : Type 0 where
  pub answer : r ≡ made.answer
  pub memory : after ≡ stored made.answer (record_bytes made.hash) before
  pub count : dots ≡ made.dots
