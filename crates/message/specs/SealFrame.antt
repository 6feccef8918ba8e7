-- What a private function of writing leaves: a frame sealed into the output. Assumes nothing.
use Rattle.std.specs.Prelude.{ℕ, ◌-◌, ◌≡◌, List, length}
use Rattle.sealing.specs.Calls.{written}
use Rattle.sealing.specs.Siv.{seal_answer}
use Rattle.messaging.specs.Parts.{ad_of, frame_of}

-- sealing into a frame: the room is what stands behind the first 16 bytes
pub record SealsFrame (kind : ℕ) (key nonce text out : List ℕ) (r : ℕ) (after : List ℕ) : Type 0 where
  pub answer : r ≡ seal_answer key nonce (ad_of kind text) text (length out - 16)
  pub memory : after ≡ written (seal_answer key nonce (ad_of kind text) text (length out - 16)) (frame_of kind key nonce text) out
