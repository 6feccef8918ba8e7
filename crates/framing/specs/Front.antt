-- What stands at the front of a byte string: a whole frame, or the first reason why there is none (document 01, "Frame"
-- and the order 9, 10, 11, 12). Assumes nothing.
use Rattle.std.specs.Prelude.{ℕ, ◌+◌, ◌*◌, not, cond, List, [], ◌∷◌, length, get_or, eqb, ltb, Result, Ok, Err}
use Rattle.answer.specs.Answers.{done, not_a_frame, unknown_kind, length_for_kind, cut_short}
use Rattle.answer.specs.First.{Refusal, ◌⇒◌, first}
use Rattle.answer.specs.declared.Reason.{Reason}
use Rattle.answer.specs.Reasons.{number_of}
use Rattle.framing.specs.declared.Extent.{Extent}
use Rattle.framing.specs.Kinds.{is_known, is_allowed, kind_number}

-- a whole frame of this kind that takes so many bytes, or the answer that says why there is none (9 to 12)
pub data Front : Type 0 where
  Whole : (kind taken : ℕ) → Front
  Stop : (reason : ℕ) → Front

-- byte 0
abbrev pub mark : ℕ
mark = 0x4B

-- byte 1
abbrev pub kind_of : List ℕ → ℕ
kind_of s = get_or s 1 0

-- bytes 2 and 3: the length of the sealed part, little-endian
abbrev pub sealed_len : List ℕ → ℕ
sealed_len s = get_or s 2 0 + get_or s 3 0 * 256

-- the bytes that the frame takes: 16 before the sealed part, and it
abbrev pub taken_of : List ℕ → ℕ
taken_of s = 16 + sealed_len s

-- "a missing byte that a check needs is 12 at that check": s has fewer than n bytes
abbrev pub lacks : ℕ → List ℕ → Refusal
lacks n s = ltb (length s) n ⇒ cut_short

-- the checks of a frame's front, in document 01's order
unfoldable pub checks : List ℕ → List Refusal
checks s =
    lacks 1 s ∷ not (eqb (get_or s 0 0) mark) ⇒ not_a_frame ∷ lacks 2 s ∷ not (is_known (kind_of s)) ⇒ unknown_kind ∷ lacks 4 s
    ∷ not (is_allowed (kind_of s) (sealed_len s)) ⇒ length_for_kind ∷ lacks (taken_of s) s ∷ []

-- why no whole frame stands at the front of s; 0 where one does
abbrev pub stop_of : List ℕ → ℕ
stop_of s = first (checks s)

-- the frame's kind and the bytes that it takes, or the reason
unfoldable pub front_of : List ℕ → Front
front_of s = cond (eqb (stop_of s) done) (Whole (kind_of s) (taken_of s)) (Stop (stop_of s))

-- what code has of it
abbrev pub front_told : Result Extent Reason → Front
front_told (Ok e) = Whole (kind_number e.kind) e.taken
front_told (Err reason) = Stop (number_of reason)
