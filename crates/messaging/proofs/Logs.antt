-- Any frames that writing makes, one after the other, scan whole; and behind them a cut one leaves them and their count as
-- they are. Assumes nothing.
use Prim.Native.Nat.{ℕ, ◌<◌}
use mathlib.Core.Path.{◌≡◌, sym, subst}
use mathlib.Core.List.{List, [], ◌∷◌, ◌++◌}
use lib.ListN.{length, take}
use Rattle.answer.specs.Answers.{cut_short}
use Rattle.framing.specs.Scan.{scan_of}
use Rattle.framing.proofs.Longest.{IsFrame, AllFrames, joined, all_frames}
use Rattle.framing.proofs.NoCutFrame.{cut_behind_frames}
use Rattle.messaging.specs.Parts.{frame_of}
use Rattle.messaging.specs.Write.{write_answer}
use Rattle.messaging.proofs.Writing.{is_frame}

-- a frame that writing makes
pub record IsWritten (f : List ℕ) : Type 0 where
  pub kind : ℕ
  pub key : List ℕ
  pub nonce : List ℕ
  pub text : List ℕ
  pub room : ℕ
  pub made : write_answer kind key nonce text room ≡ 0
  pub bytes : f ≡ frame_of kind key nonce text

abbrev pub AllWritten : List (List ℕ) → Type 0
AllWritten [] = Unit {0}
AllWritten (f ∷ fs) = IsWritten f × AllWritten fs

written_frame : (f : List ℕ) → IsWritten f → IsFrame f
written_frame f w = subst IsFrame (sym w.bytes) (is_frame w.kind w.key w.nonce w.text w.room w.made)

written_frames : (fs : List (List ℕ)) → AllWritten fs → AllFrames fs
written_frames [] w = tt
written_frames (f ∷ fs) (w, ws) = (written_frame f w, written_frames fs ws)

-- all their bytes, their count, stop 0
pub written_scan : (fs : List (List ℕ)) → AllWritten fs → scan_of (joined fs) ≡ record { taken = length (joined fs); frames = length fs; stop = 0 }
written_scan fs w = all_frames fs (written_frames fs w)

-- the battery failed in the last one: the frames before it stand and are counted
pub cut_at_the_end : (fs : List (List ℕ)) (f : List ℕ) (n : ℕ) → AllWritten fs → IsWritten f → 0 < n → n < length f
    → scan_of (joined fs ++ take n f) ≡ record { taken = length (joined fs); frames = length fs; stop = cut_short }
cut_at_the_end fs f n ws w p h = cut_behind_frames f (written_frame f w) n h fs (written_frames fs ws) p
