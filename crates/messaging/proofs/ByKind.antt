-- What was written is read again, kind by kind, with its very values: the fields of a position, the length of a text. Assumes nothing.
use Prim.Native.Nat.{ℕ, ◌+◌, ◌≤◌}
use mathlib.Core.Path.{◌≡◌, ◌∙◌}
use mathlib.Core.List.{List, [], ◌++◌}
use native.Mathlib.Omega.{arith}
use lib.ListN.{length}
use Rattle.framing.specs.declared.position.Position.{Position}
use Rattle.framing.specs.Position.{position_bytes}
use Rattle.framing.proofs.RoundTrip.{Fits, position_length, position_bytes_lem}
use Rattle.framing.specs.Kinds as kinds
use Rattle.messaging.specs.Reading as message
use Rattle.messaging.specs.Parts.{frame_of}
use Rattle.messaging.specs.Write.{write_answer}
use Rattle.messaging.specs.Read.{read_of}
use Rattle.messaging.proofs.Trips.{read_write}

-- a position that was written is read with its own four fields, and a frame of 48 bytes
pub position_again : (p : Position) → Fits p → (key nonce rest : List ℕ) (place room : ℕ) → write_answer kinds.position key nonce (position_bytes p) place ≡ 0 → 16 ≤ room
    → read_of key (frame_of kinds.position key nonce (position_bytes p) ++ rest) room ≡ message.Position p 48
position_again p f key nonce rest place room w h =
    let l : length (position_bytes p) ≡ 16 = position_length p in
    read_write kinds.position key nonce (position_bytes p) rest place w room (omega arith)
    ∙ (λ i. message.Position (position_bytes_lem p f i) (l i + 32))

-- a text is read with its length, and a check-in as one
pub text_again : (text key nonce rest : List ℕ) (place room : ℕ) → write_answer kinds.text key nonce text place ≡ 0 → length text ≤ room
    → read_of key (frame_of kinds.text key nonce text ++ rest) room ≡ message.Text (length text) (length text + 32)
text_again text key nonce rest place room w h = read_write kinds.text key nonce text rest place w room h

pub check_in_again : (key nonce rest : List ℕ) (place room : ℕ) → write_answer kinds.check_in key nonce [] place ≡ 0
    → read_of key (frame_of kinds.check_in key nonce [] ++ rest) room ≡ message.CheckIn 32
check_in_again key nonce rest place room w = read_write kinds.check_in key nonce [] rest place w room (omega arith)
