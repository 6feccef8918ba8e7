-- The lines of a log's report. Assumes nothing.
use Rattle.std.specs.Prelude.{ℕ, ◌+◌, ◌*◌, ◌≤◌, ◌≡◌, List, ◌++◌, cond, ℤ, leb, length, take, drop}
use Rattle.reporting.specs.Ascii.{ascii}
use Rattle.reporting.specs.Numbers.{decimal, fixed}
use Rattle.reporting.specs.Escapes.{escaped}

-- what each line of a frame begins with: its offset, its kind and its answer
unfoldable pub head_of : (offset kind answer : ℕ) → List ℕ
head_of offset kind answer = decimal offset ++ (ascii " " ++ (decimal kind ++ (ascii " " ++ decimal answer)))

-- a frame with a word of the program's and bytes of the frame's, both escaped
unfoldable pub line_of : (offset kind answer : ℕ) (label s : List ℕ) → List ℕ
line_of offset kind answer label s = head_of offset kind answer ++ (ascii " " ++ (escaped label ++ (escaped s ++ ascii "\n")))

-- the fields of a position: degrees with seven places, metres with two, seconds
unfoldable pub angles_of : (lat lon : ℤ) → List ℕ
angles_of lat lon = ascii "lat " ++ (fixed 7 lat ++ (ascii " deg, lon " ++ (fixed 7 lon ++ ascii " deg")))

unfoldable pub height_of : (alt : ℤ) (time : ℕ) → List ℕ
height_of alt time = ascii ", alt " ++ (fixed 2 alt ++ (ascii " m, time " ++ (decimal time ++ ascii " s")))

-- a position that was opened: its answer is 0
unfoldable pub position_line_of : (offset kind : ℕ) (lat lon alt : ℤ) (time : ℕ) → List ℕ
position_line_of offset kind lat lon alt time =
    head_of offset kind 0 ++ (ascii " position: " ++ (angles_of lat lon ++ (height_of alt time ++ ascii "\n")))

-- why the scan stopped, where, and after how many frames
unfoldable pub stop_of : (reason offset frames : ℕ) → List ℕ
stop_of reason offset frames =
    ascii "stop " ++ (decimal reason ++ (ascii " at " ++ (decimal offset ++ (ascii ", frames " ++ (decimal frames ++ ascii ": ")))))

unfoldable pub stop_line_of : (reason offset frames : ℕ) (note : List ℕ) → List ℕ
stop_line_of reason offset frames note = stop_of reason offset frames ++ (escaped note ++ ascii "\n")

-- what a line may take that holds n bytes to escape
abbrev pub room_for : ℕ → ℕ
room_for n = 256 + 4 * n

-- the promise of a call that makes a line with n bytes to escape: with the room, the text at the front of out and its length;
-- without, nothing and 0
pub record Line (n : ℕ) (text out out' : List ℕ) (r : ℕ) : Type 0 where
  pub out_is : out' ≡ cond (leb (room_for n) (length out)) (text ++ drop (length text) out) out
  pub length_is : r ≡ cond (leb (room_for n) (length out)) (length text) 0

-- n bytes stand at the front of out: what a caller has to know who prints them
abbrev pub AtFront : ℕ → List ℕ → Type 0
AtFront n out = (n ≤ length out) × (n ≡ length (take n out))
