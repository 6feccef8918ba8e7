-- Writing a frame: "10, 11, 13, then sealing" (document 01, "Answers"). Assumes nothing.
use Rattle.std.specs.Prelude.{ℕ, ◌+◌, ◌-◌, ◌≡◌, cond, not, List, [], ◌∷◌, length, eqb, Result, Ok, Err}
use Rattle.answer.specs.Answers.{done, unknown_kind, length_for_kind}
use Rattle.answer.specs.declared.Reason.{Reason}
use Rattle.answer.specs.Reasons.{number_of}
use Rattle.answer.specs.First.{◌⇒◌, first, ◌then◌}
use Rattle.sealing.specs.Calls.{written}
use Rattle.sealing.specs.Siv.{seal_answer}
use Rattle.framing.specs.Kinds.{is_known, is_allowed}
use Rattle.messaging.specs.Parts.{ad_of, frame_of}
use Rattle.messaging.specs.Message.{content_answer}

-- what a writing answers: 0 and the bytes written, or why it was refused and none
pub record Written : Type 0 where
  pub answer : ℕ
  pub len : ℕ

-- what code has of it
abbrev pub written_told : Result ℕ Reason → Written
written_told (Ok n) = record { answer = done; len = n }
written_told (Err reason) = record { answer = number_of reason; len = 0 }

-- 10, 11, 13: the kind, the length of what would be sealed, and what the plaintext says
abbrev pub kind_answer : (kind : ℕ) (text : List ℕ) → ℕ
kind_answer kind text = first (not (is_known kind) ⇒ unknown_kind ∷ not (is_allowed kind (length text + 16)) ⇒ length_for_kind ∷ [])

abbrev pub plain_answer : (kind : ℕ) (text : List ℕ) → ℕ
plain_answer kind text = kind_answer kind text then content_answer kind text

-- sealing has the room behind the first 16 bytes: n + 32 are needed, and less is 7 at sealing's place
unfoldable pub write_answer : (kind : ℕ) (key nonce text : List ℕ) (room : ℕ) → ℕ
write_answer kind key nonce text room = plain_answer kind text then seal_answer key nonce (ad_of kind text) text (room - 16)

-- the bytes written, where it does not refuse
unfoldable pub written_of : (kind : ℕ) (key nonce text : List ℕ) (room : ℕ) → Written
written_of kind key nonce text room =
    record { answer = write_answer kind key nonce text room; len = cond (eqb (write_answer kind key nonce text room) done) (length text + 32) 0 }

unfoldable pub write_out : (kind : ℕ) (key nonce text out : List ℕ) → List ℕ
write_out kind key nonce text out = written (write_answer kind key nonce text (length out)) (frame_of kind key nonce text) out

-- the promise: the answer with the bytes written, and the output after the call
pub record Writes (kind : ℕ) (key nonce text out : List ℕ) (r : Written) (after : List ℕ) : Type 0 where
  pub answer : r ≡ written_of kind key nonce text (length out)
  pub memory : after ≡ write_out kind key nonce text out
