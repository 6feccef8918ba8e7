-- What a reading answers: a message by its case, or the number that says why it was refused. Assumes nothing.
use Rattle.std.specs.Prelude.{ℕ, Result, Ok, Err}
use Rattle.answer.specs.declared.Reason.{Reason}
use Rattle.answer.specs.Reasons.{number_of}
use Rattle.framing.specs.declared.position.Position.{Position as Fields}
use Rattle.messaging.specs.declared.Message.{Message}
use Rattle.messaging.specs.declared.Message.TheVariants as code

-- a position with its fields, a text with its length, a check-in, each with the bytes that its frame took; or why none was read
pub data Reading : Type 0 where
  Position : (position : Fields) (taken : ℕ) → Reading
  Text : (len taken : ℕ) → Reading
  CheckIn : (taken : ℕ) → Reading
  Refused : (answer : ℕ) → Reading

-- what code has of it
abbrev pub reading_told : Result Message Reason → Reading
reading_told (Ok (code.Position p n)) = Position p n
reading_told (Ok (code.Text l n)) = Text l n
reading_told (Ok (code.CheckIn n)) = CheckIn n
reading_told (Err reason) = Refused (number_of reason)
