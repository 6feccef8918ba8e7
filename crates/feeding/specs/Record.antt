-- The hash record: what it holds after a call, and what a refusal returns (document 01, "Answers" and "Feeding and joining"). Assumes nothing.
use Rattle.std.specs.Prelude.{ℕ, ◌-◌, cond, List, ◌++◌, eqb, length, take, replicate}
use Rattle.answer.specs.Answers.{done}
use Rattle.field.specs.declared.rf.Counted.{Counted}
use Rattle.field.specs.Element.{element}
use Rattle.feeding.specs.declared.ExpandedKey.{ExpandedKey}
use Rattle.feeding.specs.Key.{power_count}
use Rattle.feeding.specs.declared.Hash.{Hash}
use Rattle.feeding.specs.Answers.{FedAnswer, FinishAnswer}

-- bytes at the front of a block of zeros
abbrev pub filled : List ℕ → List ℕ
filled s = s ++ replicate (16 - length s) 0

-- the bytes that a record keeps for the next call: stored bytes past the count are none of them
abbrev pub pending_of : Hash → List ℕ
pending_of h = take h.count h.pending

-- the element that a record holds, with nothing spent yet
abbrev pub held_by : Hash → Counted
held_by h = record { element = h.acc; multiplies = 0 }

-- done: the record with a key, an element and the bytes `kept`, zeros past them, and the word products spent
abbrev pub holding : ExpandedKey → Counted → (kept : List ℕ) → FedAnswer
holding key made kept =
    record { answer = done; hash = record { key = key; acc = made.element; pending = filled kept; count = length kept }; multiplies = made.multiplies }

-- "Any count, hash, tag, record or position it returns is all zero."
abbrev pub zero_hash : Hash
zero_hash =
    record { key = record { powers = replicate power_count (record { h = element 0; d = element 0 }) }; acc = element 0; pending = replicate 16 0; count = 0 }

-- what a call answers: what it made where its answer is 0, and else the number with nothing
abbrev pub fed_or : (answer : ℕ) → FedAnswer → FedAnswer
fed_or answer made = cond (eqb answer done) made (record { answer = answer; hash = zero_hash; multiplies = 0 })

abbrev pub finished_or : (answer : ℕ) → FinishAnswer → FinishAnswer
finished_or answer made = cond (eqb answer done) made (record { answer = answer; tag = replicate 16 0; multiplies = 0 })
