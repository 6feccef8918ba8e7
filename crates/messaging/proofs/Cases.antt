-- Document 01's "Cases" as writing and reading meet them, and the order of answers on both sides. Assumes nothing.
use Prim.Native.Nat.{ℕ, ◌+◌, ◌≤◌}
use mathlib.Core.Path.{◌≡◌, refl, ap, ◌∙◌}
use mathlib.Core.List.{List, [], ◌∷◌, ◌++◌}
use mathlib.Core.Logic.{◌⊎◌}
use native.Mathlib.Omega.{arith}
use lib.IntN.{pos}
use lib.ListN.{length, take}
use Rattle.octets.specs.Numbers.{number, bytes_of}
use Rattle.answer.specs.Answers.{length_for_kind, cut_short, out_of_range}
use Rattle.framing.specs.declared.position.Position.{Position}
use Rattle.framing.specs.Position.{position_of, position_bytes}
use Rattle.framing.specs.Kinds as kinds
use Rattle.framing.specs.Front.{mark}
use Rattle.framing.proofs.RoundTrip.{position_length}
use Rattle.framing.proofs.Cases as frames
use Rattle.messaging.specs.Reading.{Refused}
use Rattle.messaging.specs.Parts.{frame_of}
use Rattle.messaging.specs.Message.{content_answer}
use Rattle.messaging.specs.Write.{write_answer}
use Rattle.messaging.specs.Read.{read_of}
use Rattle.messaging.proofs.Writing.{frame_length, write_done}
use Rattle.messaging.proofs.Reading.{stop_read}
use Rattle.messaging.proofs.Trips.{read_again}
use Rattle.messaging.proofs.NoCutMessage.{written_reads_as_12}

-- a position frame has 48 bytes: 48 reads (ByKind, position_again), 47 is 12
pub position_48 : (p : Position) (key nonce : List ℕ) → length nonce ≡ 12 → length (frame_of kinds.position key nonce (position_bytes p)) ≡ 48
position_48 p key nonce h = frame_length kinds.position key nonce (position_bytes p) h ∙ ap (λ n. n + 32) (position_length p)

pub position_47 : (p : Position) (key nonce : List ℕ) (place : ℕ) → write_answer kinds.position key nonce (position_bytes p) place ≡ 0 → (other : List ℕ) (room : ℕ)
    → read_of other (take 47 (frame_of kinds.position key nonce (position_bytes p))) room ≡ Refused cut_short
position_47 p key nonce place w = written_reads_as_12 kinds.position key nonce (position_bytes p) place w 47 (omega (arith, position_length p))

-- text with a sealed length of 177 or 16 is 11, whatever follows and even if bytes are missing too
pub text_177 : (rest key : List ℕ) (room : ℕ) → read_of key (mark ∷ kinds.text ∷ 177 ∷ 0 ∷ rest) room ≡ Refused length_for_kind
text_177 rest key = stop_read key _ length_for_kind (frames.text_177 rest)

pub text_16 : (rest key : List ℕ) (room : ℕ) → read_of key (mark ∷ kinds.text ∷ 16 ∷ 0 ∷ rest) room ≡ Refused length_for_kind
text_16 rest key = stop_read key _ length_for_kind (frames.text_16 rest)

-- an empty buffer is 12 as a frame
pub empty_read : (key : List ℕ) (room : ℕ) → read_of key [] room ≡ Refused cut_short
empty_read key = stop_read key [] cut_short frames.empty_frame

-- altitude 1,000,000 stands; 1,000,001 is 13: it is not written, under any key and with any room
abbrev pub at_altitude : ℕ → List ℕ
at_altitude h = position_bytes (record { lat = pos 0; lon = pos 0; alt = pos h; time = 0 })

pub highest_content : content_answer kinds.position (at_altitude 1000000) ≡ 0
unfolding position_of position_bytes number bytes_of
highest_content = refl

pub too_high_content : content_answer kinds.position (at_altitude 1000001) ≡ out_of_range
unfolding position_of position_bytes number bytes_of
too_high_content = refl

pub highest_written : (key nonce : List ℕ) (room : ℕ) → (length key ≡ 16) ⊎ (length key ≡ 32) → length nonce ≡ 12 → 48 ≤ room → write_answer kinds.position key nonce (at_altitude 1000000) room ≡ 0
unfolding position_bytes bytes_of kinds.is_known kinds.is_allowed kinds.row_of kinds.table
highest_written key nonce room k n h = write_done kinds.position key nonce (at_altitude 1000000) room
    (record { known = refl; allowed = refl; content = highest_content; key_length_lem = k; nonce_length_lem = n; roomy = h })

pub too_high_written : (key nonce : List ℕ) (room : ℕ) → write_answer kinds.position key nonce (at_altitude 1000001) room ≡ out_of_range
unfolding write_answer position_of position_bytes number bytes_of kinds.is_known kinds.is_allowed kinds.row_of kinds.table
too_high_written key nonce room = refl

-- and where someone sealed it all the same, it is read as 13 once the tag has agreed
pub too_high_read : (key nonce rest : List ℕ) (room : ℕ) → (length key ≡ 16) ⊎ (length key ≡ 32) → length nonce ≡ 12 → 16 ≤ room
    → read_of key (frame_of kinds.position key nonce (at_altitude 1000001) ++ rest) room ≡ Refused out_of_range
unfolding position_of position_bytes number bytes_of kinds.is_known kinds.is_allowed kinds.row_of kinds.table
too_high_read key nonce rest room k n h = read_again kinds.position key nonce (at_altitude 1000001) rest room refl refl k n h
