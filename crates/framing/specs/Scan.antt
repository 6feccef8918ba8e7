-- What a scan of a log finds (document 01, "Frame"): the whole frames at its front, and why there is no next one. Assumes
-- nothing.
use Rattle.std.specs.Prelude.{ℕ, zero, suc, ◌+◌, ◌≡◌, List, cond, length, take, drop, eqb}
use Rattle.framing.specs.Front.{Front, Whole, Stop, front_of}

-- how many bytes the whole frames at the front take, how many they are, and why there is no next one (0 at the exact end)
pub record Scan : Type 0 where
  pub taken : ℕ
  pub frames : ℕ
  pub stop : ℕ

-- no frame, for the reason r
abbrev pub none : ℕ → Scan
none r = record { taken = 0; frames = 0; stop = r }

-- k frames of t bytes together, and then what else was found
abbrev pub ahead : ℕ → ℕ → Scan → Scan
ahead t k r = record { taken = t + r.taken; frames = k + r.frames; stop = r.stop }

-- by what stands at the front: a frame, and the scan of what follows its bytes, or a reason to stop
abbrev pub on_front : (ℕ → Scan) → Front → Scan
on_front next (Whole kind t) = ahead t 1 (next t)
on_front next (Stop r) = none r

-- n bounds the frames that are looked at
unfoldable pub scan_from : ℕ → List ℕ → Scan
scan_from zero s = none 0
scan_from (suc n) s = cond (eqb (length s) 0) (none 0) (on_front (λ t. scan_from n (drop t s)) (front_of s))

-- a log has no more frames than bytes
unfoldable pub scan_of : List ℕ → Scan
scan_of s = scan_from (length s) s

-- the promise of `scan`: the part that is handed back, and the two numbers
pub record Scanned (log part : List ℕ) (frames stop : ℕ) : Type 0 where
  pub part_is : part ≡ take (scan_of log).taken log
  pub frames_is : frames ≡ (scan_of log).frames
  pub stop_is : stop ≡ (scan_of log).stop
