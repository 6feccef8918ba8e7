-- Reading a frame: "9, 10, 11, 12, then opening, then 13" (document 01, "Answers"). What follows the frame plays no part.
-- Assumes nothing.
use Rattle.std.specs.Prelude.{ℕ, ◌≡◌, cond, List, length, eqb}
use Rattle.answer.specs.Answers.{done}
use Rattle.answer.specs.First.{◌then◌}
use Rattle.sealing.specs.Calls.{written}
use Rattle.sealing.specs.Siv.{open_answer}
use Rattle.framing.specs.Front.{kind_of, taken_of, stop_of}
use Rattle.messaging.specs.Reading.{Reading, Refused}
use Rattle.messaging.specs.Parts.{ad_in, nonce_in, sealed_in, opened_in}
use Rattle.messaging.specs.Message.{content_answer, message_of}

-- a message, or the number that refuses it
abbrev pub or_refused : (answer : ℕ) → Reading → Reading
or_refused answer m = cond (eqb answer done) m (Refused answer)

unfoldable pub read_answer : (key s : List ℕ) (room : ℕ) → ℕ
read_answer key s room = stop_of s then open_answer key (nonce_in s) (ad_in s) (sealed_in s) room then content_answer (kind_of s) (opened_in key s)

-- what its plaintext says, with the bytes that the frame took
unfoldable pub read_of : (key s : List ℕ) (room : ℕ) → Reading
read_of key s room = or_refused (read_answer key s room) (message_of (kind_of s) (opened_in key s) (taken_of s))

-- the plaintext of any kind goes to the front of the output; a refusal changes nothing
unfoldable pub read_out : (key s out : List ℕ) → List ℕ
read_out key s out = written (read_answer key s (length out)) (opened_in key s) out

-- the promise: the message, and the output after the call
pub record Reads (key s out : List ℕ) (r : Reading) (after : List ℕ) : Type 0 where
  pub answer : r ≡ read_of key s (length out)
  pub memory : after ≡ read_out key s out
