-- What every call leaves to a C caller alike. Assumes nothing.
use Rattle.std.specs.Prelude.{ℕ, Bool, cond, List, eqb}
use Rattle.answer.specs.Answers.{done}

-- a record is rewritten on answer 0 alone
abbrev pub stored : (answer : ℕ) (new old : List ℕ) → List ℕ
stored answer new old = cond (eqb answer done) new old

-- a question that is no call's answer: 1 is yes and 0 is no
abbrev pub yes_or_no : Bool → ℕ
yes_or_no t = cond t 1 0
