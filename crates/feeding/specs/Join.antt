-- What joining two hash records answers (document 01, "Feeding and joining"). Assumes nothing.
use Rattle.std.specs.Prelude.{ℕ, cond, not, [], ◌∷◌, eqb, ltb, replicate}
use Rattle.answer.specs.Answers.{done, bad_record}
use Rattle.answer.specs.First.{first, ◌⇒◌}
use Rattle.octets.specs.Xor.{◌⊕◌}
use Rattle.field.specs.Element.{value, element}
use Rattle.feeding.specs.Key.{h_of, same_element}
use Rattle.feeding.specs.declared.Hash.{Hash}
use Rattle.feeding.specs.Record.{zero_hash}
use Rattle.feeding.specs.Answers.{JoinAnswer}
use Rattle.feeding.specs.Times.{times, dots_of}

-- pending bytes in either record, or unlike keys: "Keys are alike when their 16 bytes of H are equal"
abbrev pub join_answer : Hash → Hash → ℕ
join_answer a b = first (ltb 0 a.count ⇒ bad_record ∷ ltb 0 b.count ⇒ bad_record ∷ not (same_element (h_of a.key) (h_of b.key)) ⇒ bad_record ∷ [])

abbrev pub joined_or : (answer : ℕ) → JoinAnswer → JoinAnswer
joined_or answer made = cond (eqb answer done) made (record { answer = answer; hash = zero_hash; dots = 0 })

-- "the first one's stored key, nothing pending, whose hash is A multiplied by H through dot n times, plus B"
abbrev pub joined : Hash → Hash → (n : ℕ) → JoinAnswer
joined a b n =
    record {
      answer = done;
      hash =
          record { key = a.key; acc = element (times (value (h_of a.key)) n (value a.acc) ⊕ value b.acc); pending = replicate 16 0; count = 0 };
      dots = dots_of n;
    }

abbrev pub join_of : Hash → Hash → (n : ℕ) → JoinAnswer
join_of a b n = joined_or (join_answer a b) (joined a b n)
