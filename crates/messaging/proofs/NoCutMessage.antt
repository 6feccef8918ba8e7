-- No cut message is ever a position, a text or a check-in. This is the accident that this library exists for: part of a
-- position was sent, and its missing bytes were read as zeros. Here: every proper prefix of a whole frame reads as exactly
-- 12, under any key and with any room, and writes nothing; the scan of a nonempty one stops at its start with 12. It holds
-- of every frame that writing makes, and of every other whole frame. Assumes nothing.
use Prim.Native.Nat.{ℕ, ◌+◌, ◌<◌}
use mathlib.Core.Path.{◌≡◌}
use mathlib.Core.List.{List}
use native.Mathlib.Omega.{arith}
use lib.ListN.{length, take}
use Rattle.answer.specs.Answers.{cut_short}
use Rattle.framing.specs.Scan.{none, scan_of}
use Rattle.framing.proofs.Longest.{IsFrame}
use Rattle.framing.proofs.NoCutFrame.{cut_is_12, cut_scans_none}
use Rattle.messaging.specs.Reading.{Refused}
use Rattle.messaging.specs.Parts.{frame_of}
use Rattle.messaging.specs.Write.{write_answer}
use Rattle.messaging.specs.Read.{read_of, read_out}
use Rattle.messaging.proofs.Writing.{is_frame, writable, frame_length}
use Rattle.messaging.proofs.Reading.{stop_read, stop_out}

-- any whole frame f, cut to its first n bytes
module _ (f : List ℕ) (whole : IsFrame f) (n : ℕ) (cut : n < length f) where
  -- it reads as 12, and as nothing else
  pub reads_as_12 : (key : List ℕ) (room : ℕ) → read_of key (take n f) room ≡ Refused cut_short
  reads_as_12 key room = stop_read key (take n f) cut_short (cut_is_12 f whole n cut) room

  -- nothing is written
  pub writes_nothing : (key out : List ℕ) → read_out key (take n f) out ≡ out
  writes_nothing key out = stop_out key (take n f) cut_short (cut_is_12 f whole n cut) out

  -- and a scan stops at its start, with no frame
  pub scans_as_12 : 0 < n → scan_of (take n f) ≡ none cut_short
  scans_as_12 = cut_scans_none f whole n cut

-- the same of a frame as it is written: n + 32 bytes for n of plaintext, and every byte fewer is told
module _ (kind : ℕ) (key nonce text : List ℕ) (place : ℕ) (w : write_answer kind key nonce text place ≡ 0) (n : ℕ) (cut : n < length text + 32) where
  shorter : n < length (frame_of kind key nonce text)
  shorter = omega (arith, frame_length kind key nonce text (writable kind key nonce text place w).nonce_length_lem)

  pub written_reads_as_12 : (other : List ℕ) (room : ℕ) → read_of other (take n (frame_of kind key nonce text)) room ≡ Refused cut_short
  written_reads_as_12 = reads_as_12 (frame_of kind key nonce text) (is_frame kind key nonce text place w) n shorter

  pub written_writes_nothing : (other out : List ℕ) → read_out other (take n (frame_of kind key nonce text)) out ≡ out
  written_writes_nothing = writes_nothing (frame_of kind key nonce text) (is_frame kind key nonce text place w) n shorter
