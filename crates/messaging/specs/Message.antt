-- What a message is: a kind, its plaintext and the bytes that its frame took; and the answer of reading, case by case.
-- Assumes nothing.
use Rattle.std.specs.Prelude.{ℕ, cond, not, List, [], ◌∷◌, ℤ, pos, length, eqb}
use Rattle.answer.specs.Answers.{done, out_of_range}
use Rattle.answer.specs.First.{◌⇒◌, first}
use Rattle.framing.specs.Position.{in_range, position_of}
use Rattle.framing.specs.Kinds as kinds
use Rattle.messaging.specs.Reading.{Reading}
use Rattle.messaging.specs.Reading as message

-- why a plaintext may not stand in a frame of its kind, its length aside: 13, position out of range; the other kinds may say
-- anything
abbrev pub content_answer : (kind : ℕ) (text : List ℕ) → ℕ
content_answer kind text = cond (eqb kind kinds.position) (first (not (in_range (position_of text)) ⇒ out_of_range ∷ [])) done

-- what a plaintext says
abbrev pub message_of : (kind : ℕ) (text : List ℕ) (taken : ℕ) → Reading
message_of kind text taken =
    cond (eqb kind kinds.position) (message.Position (position_of text) taken) (cond (eqb kind kinds.text) (message.Text (length text) taken) (message.CheckIn taken))

-- the number and the values of each case, and zero where it has none
pub record Values : Type 0 where
  pub answer : ℕ
  pub kind : ℕ
  pub lat : ℤ
  pub lon : ℤ
  pub alt : ℤ
  pub time : ℕ
  pub len : ℕ
  pub taken : ℕ

abbrev pub values_of : Reading → Values
values_of (message.Position p n) = record { answer = done; kind = kinds.position; lat = p.lat; lon = p.lon; alt = p.alt; time = p.time; len = 0; taken = n }
values_of (message.Text l n) = record { answer = done; kind = kinds.text; lat = pos 0; lon = pos 0; alt = pos 0; time = 0; len = l; taken = n }
values_of (message.CheckIn n) = record { answer = done; kind = kinds.check_in; lat = pos 0; lon = pos 0; alt = pos 0; time = 0; len = 0; taken = n }
values_of (message.Refused r) = record { answer = r; kind = 0; lat = pos 0; lon = pos 0; alt = pos 0; time = 0; len = 0; taken = 0 }
