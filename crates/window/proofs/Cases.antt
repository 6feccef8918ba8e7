-- Steps, slides and whole readings of a few bytes, computed, and the values of each step. Assumes nothing.
use Prim.Native.Nat.{ℕ}
use mathlib.Core.Path.{◌≡◌, refl}
use mathlib.Core.Bool.{Bool, true, false}
use mathlib.Core.List.{List, [], ◌∷◌, ◌++◌, map}
use lib.ListN.{take, drop, replicate}
use Rattle.framing.specs.Kinds.{table, row_of, is_known, is_allowed}
use Rattle.framing.specs.Front.{Whole, Stop, checks, front_of}
use Rattle.std.specs.Prelude.{Ok, Err}
use Rattle.answer.specs.declared.Reason.TheVariants.{CutShort}
use Rattle.framing.specs.declared.kind.Kind.TheVariants.{Text}
use Rattle.window.specs.declared.Step.TheVariants as code
use Rattle.window.specs.Step.{step_told, Frame, More, End, on_front, step_of, values_of}
use Rattle.window.specs.Slide.{inside, Slid}
use Rattle.window.specs.Reader.{ended, before, go_on, reported}

-- each case's number and values, and zero where it has none
pub frame_values : (kind taken : ℕ) → values_of (Frame kind taken) ≡ record { more = false; stop = 0; kind = kind; taken = taken }
frame_values kind taken = refl

pub more_values : values_of More ≡ record { more = true; stop = 0; kind = 0; taken = 0 }
more_values = refl

pub end_values : (r : ℕ) → values_of (End r) ≡ record { more = false; stop = r; kind = 0; taken = 0 }
end_values r = refl

-- what is told of code's steps, by literal
pub told_steps : (step_told (code.Frame (record { kind = Text; taken = 33 })) ≡ Frame 2 33) × (step_told code.More ≡ More) × (step_told (code.End (Ok tt)) ≡ End 0) × (step_told (code.End (Err CutShort)) ≡ End 12)
told_steps = (refl, refl, refl, refl)

-- "An empty buffer is .. stop 0 as a scan": the exact end, where the log has no more
pub nothing_held_steps : (step_of true [] ≡ End 0) × (step_of false [] ≡ More)
unfolding step_of
nothing_held_steps = (refl, refl)

-- what is cut asks for more of a log that goes on; 9, 10 and 11 end it whatever follows
pub stop_steps : map (λ r. on_front false (Stop r)) (9 ∷ 10 ∷ 11 ∷ 12 ∷ []) ≡ End 9 ∷ End 10 ∷ End 11 ∷ More ∷ []
stop_steps = refl

pub last_stop_steps : map (λ r. on_front true (Stop r)) (9 ∷ 10 ∷ 11 ∷ 12 ∷ []) ≡ End 9 ∷ End 10 ∷ End 11 ∷ End 12 ∷ []
last_stop_steps = refl

pub frame_steps : (last : Bool) (kind taken : ℕ) → on_front last (Whole kind taken) ≡ Frame kind taken
frame_steps last kind taken = refl

-- a check-in's 32 bytes
abbrev check_in : List ℕ
check_in = 0x4B ∷ 3 ∷ 16 ∷ 0 ∷ replicate {A = ℕ} 28 0

pub held_steps : (step_of false check_in ≡ Frame 3 32) × (step_of false (take 31 check_in) ≡ More) × (step_of true (take 31 check_in) ≡ End 12) × (step_of false (0 ∷ []) ≡ End 9)
unfolding step_of front_of checks is_known is_allowed row_of table
held_steps = (refl, refl, refl, refl)

-- a part of five bytes at their front, and what stood behind as many as before
pub a_slide : Slid (1 ∷ 2 ∷ 3 ∷ 4 ∷ 5 ∷ []) 2 4 (3 ∷ 4 ∷ 3 ∷ 4 ∷ 5 ∷ []) 2
a_slide = record { window_is = refl; held_is = refl }

-- the whole of them, and none
pub whole_slides : Slid (1 ∷ 2 ∷ []) 0 2 (1 ∷ 2 ∷ []) 2 × Slid (1 ∷ 2 ∷ []) 2 2 (1 ∷ 2 ∷ []) 0
whole_slides = (record { window_is = refl; held_is = refl }, record { window_is = refl; held_is = refl })

-- where from..to is no part of the window: one past its end, and backwards
pub outside_slides : Slid (1 ∷ 2 ∷ []) 1 3 (1 ∷ 2 ∷ []) 0 × Slid (1 ∷ 2 ∷ []) 3 3 (1 ∷ 2 ∷ []) 0 × Slid (1 ∷ 2 ∷ []) 2 1 (1 ∷ 2 ∷ []) 0
outside_slides = (record { window_is = refl; held_is = refl }, record { window_is = refl; held_is = refl }, record { window_is = refl; held_is = refl })

pub insides : (inside 0 2 (1 ∷ 2 ∷ []) ≡ true) × (inside 2 2 (1 ∷ 2 ∷ []) ≡ true) × (inside 0 3 (1 ∷ 2 ∷ []) ≡ false) × (inside 2 1 (1 ∷ 2 ∷ []) ≡ false)
insides = (refl, refl, refl, refl)

-- a log of a check-in and the front of another, in two pieces that part the first: one frame, and 12
pub a_reading : reported 9 (take 10 check_in ∷ (drop 10 check_in ++ take 5 check_in) ∷ []) ≡ record { frames = check_in ∷ []; stop = 12 }
unfolding go_on step_of front_of checks is_known is_allowed row_of table
a_reading = refl

-- the empty log, and a reader that has no step left
pub no_reading : (reported 2 [] ≡ ended 0) × (reported 0 [] ≡ ended 0)
unfolding go_on step_of
no_reading = (refl, refl)

pub reports : (ended 9 ≡ record { frames = []; stop = 9 }) × (before (1 ∷ []) (ended 9) ≡ record { frames = (1 ∷ []) ∷ []; stop = 9 })
reports = (refl, refl)
