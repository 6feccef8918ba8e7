-- The accident that this library exists for, as far as no key is needed: a frame that was cut is told as cut (12), wherever
-- it was cut, and is never taken for a frame. Reading, in the crate message, rests on this. Assumes nothing.
use Prim.Native.Nat.{ℕ, ◌<◌}
use mathlib.Core.Path.{◌≡◌, ap, ◌∙◌}
use mathlib.Core.List.{List, ◌++◌}
use native.Mathlib.Omega.{arith}
use native.Mathlib.Nat.{add-zero}
use lib.ListN.{length, take}
use lib.Seq.{length-take-le}
use Rattle.answer.specs.Answers.{cut_short}
use Rattle.framing.specs.Front.{Stop, front_of}
use Rattle.framing.specs.Scan.{none, ahead, scan_of}
use Rattle.framing.proofs.Whole.{is_whole, cut_frame}
use Rattle.framing.proofs.Scans.{scan_stop}
use Rattle.framing.proofs.Longest.{IsFrame, AllFrames, joined, scan_joined}

module _ (f : List ℕ) (w : IsFrame f) (n : ℕ) (h : n < length f) where
  -- every proper prefix of a whole frame is cut short
  pub cut_is_12 : front_of (take n f) ≡ Stop cut_short
  cut_is_12 = cut_frame f w.kind n (is_whole f w.kind (length f) w.whole) h

  -- the scan of a nonempty one stops at its start with 12
  pub cut_scans_none : 0 < n → scan_of (take n f) ≡ none cut_short
  cut_scans_none p = scan_stop (take n f) (rw (length-take-le n f (omega arith)) p) cut_short cut_is_12

  -- and behind whole frames it leaves them and their count as they are
  pub cut_behind_frames : (fs : List (List ℕ)) → AllFrames fs → 0 < n → scan_of (joined fs ++ take n f) ≡ record { taken = length (joined fs); frames = length fs; stop = cut_short }
  cut_behind_frames fs ws p = scan_joined fs (take n f) ws ∙ ap (ahead (length (joined fs)) (length fs)) (cut_scans_none p) ∙ simp add-zero
