-- A scan from a place in a log, as a loop goes. Assumes nothing.
use Prim.Native.Nat.{ℕ, ◌+◌, ◌≤◌, ◌<◌}
use mathlib.Core.Path.{◌≡◌, refl, sym, ap, ◌∙◌}
use mathlib.Core.List.{List}
use native.Mathlib.Omega.{arith}
use native.Mathlib.Nat.{add_assoc, add-zero, zero-add}
use lib.ListN.{length, take, drop, length-drop}
use lib.Seq.{drop-drop}
use Rattle.framing.specs.Front.{Whole, Stop, front_of}
use Rattle.framing.specs.Scan.{none, ahead, scan_of, Scanned}
use Rattle.framing.proofs.Scans.{scan_end, scan_stop, scan_whole}

-- from a place in a log, with count frames before it
module _ (log : List ℕ) (at count : ℕ) (so_far : scan_of log ≡ ahead at count (scan_of (drop at log))) where
  pub turn_whole : (kind taken : ℕ) → front_of (drop at log) ≡ Whole kind taken → scan_of log ≡ ahead (at + taken) (count + 1) (scan_of (drop (at + taken) log))
  turn_whole kind taken e = so_far ∙ ap (ahead at count) (scan_whole (drop at log) kind taken e) ∙ simp (drop-drop, ← add_assoc)

  -- the promise, where there is no next frame
  promised : (part : List ℕ) (r : ℕ) → part ≡ take at log → scan_of (drop at log) ≡ none r → Scanned log part count r
  promised part r p e =
      let all : scan_of log ≡ ahead at count (none r) = so_far ∙ ap (ahead at count) e in
      record {
        part_is = p ∙ ap (λ n. take n log) (sym (ap (λ x. x.taken) all ∙ add-zero at));
        frames_is = sym (ap (λ x. x.frames) all ∙ add-zero count);
        stop_is = sym (ap (λ x. x.stop) all);
      }

  pub turn_stop : (r : ℕ) → at < length log → front_of (drop at log) ≡ Stop r → Scanned log (take at log) count r
  turn_stop r h e = promised (take at log) r refl (scan_stop (drop at log) (rw length-drop (omega arith)) r e)

  pub turn_end : length log ≤ at → Scanned log (take at log) count 0
  turn_end h = promised (take at log) 0 refl (scan_end (drop at log) (rw length-drop (omega arith)))

pub at_start : (log : List ℕ) → scan_of log ≡ ahead 0 0 (scan_of log)
at_start log = simp zero-add
