-- A reader of a log that comes in pieces, by steps: what it reports. It holds bytes that it has read and not reported, and
-- never looks at the rest of the log. Assumes nothing.
use Rattle.std.specs.Prelude.{ℕ, zero, suc, Bool, true, false, List, [], ◌∷◌, ◌++◌, take, drop}
use Rattle.window.specs.Step.{Step, Frame, More, End, step_of}

-- the frames, each by its bytes, and why there is no next one
pub record Report : Type 0 where
  pub frames : List (List ℕ)
  pub stop : ℕ

abbrev pub ended : ℕ → Report
ended r = record { frames = []; stop = r }

abbrev pub before : List ℕ → Report → Report
before f r = record { frames = f ∷ r.frames; stop = r.stop }

-- a reader goes on, with what it then knows, holds and has yet to read
abbrev pub Going : Type 0
Going = (last : Bool) (held : List ℕ) (pieces : List (List ℕ)) → Report

-- the next piece goes behind what is held; where there is none, the reader learns that it holds the last bytes
abbrev pub on_more : Going → Going
on_more go last held [] = go true held []
on_more go last held (p ∷ ps) = go last (held ++ p) ps

-- by a step: a frame is reported and dropped, more is read, or the reader stops
abbrev pub on_step : Going → Step → Going
on_step go (Frame kind taken) last held pieces = before (take taken held) (go last (drop taken held) pieces)
on_step go More last held pieces = on_more go last held pieces
on_step go (End r) last held pieces = ended r

-- n bounds the steps
unfoldable pub go_on : ℕ → Going
go_on zero last held pieces = ended 0
go_on (suc n) last held pieces = on_step (go_on n) (step_of last held) last held pieces

-- a reader starts with nothing held
abbrev pub reported : (n : ℕ) (pieces : List (List ℕ)) → Report
reported n pieces = go_on n false [] pieces
