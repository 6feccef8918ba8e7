-- What a call on a hash record gives back, as document 01 tells it: always a number, and beside it what the call made. Assumes nothing.
use Rattle.std.specs.Prelude.{ℕ, List}
use Rattle.feeding.specs.declared.Hash.{Hash}

-- a call's answer, the record that it made, and the word products that it spent
pub record FedAnswer : Type 0 where
  pub answer : ℕ
  pub hash : Hash
  pub multiplies : ℕ

-- the answer of finish, the tag, and the word products spent
pub record FinishAnswer : Type 0 where
  pub answer : ℕ
  pub tag : List ℕ
  pub multiplies : ℕ

-- the answer of a join, the record of both parts, and the dots that it spent
pub record JoinAnswer : Type 0 where
  pub answer : ℕ
  pub hash : Hash
  pub dots : ℕ
