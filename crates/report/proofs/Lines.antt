-- The pieces of a line in a row, as the code puts them. Assumes nothing.
use Rattle.std.proofs.Common.{ℕ, ◌/◌, ◌^◌, ◌≡◌, ap, List, ◌++◌, append_assoc}
use Rattle.framing.specs.declared.position.Position.{Position}
use lib.IntN.{ℤ, nat_abs}
use Rattle.reporting.specs.Ascii.{ascii}
use Rattle.reporting.specs.Numbers.{digits, decimal, sign, in_places, fixed}
use Rattle.reporting.specs.Escapes.{escaped}
use Rattle.reporting.specs.Lines.{head_of, line_of, angles_of, height_of, position_line_of, stop_of, stop_line_of}

pub places_row : (k unit m : ℕ) → unit ≡ 10 ^ k → (decimal (m / unit) ++ ascii ".") ++ digits k m ≡ in_places k m
unfolding in_places
places_row k unit m e = rw e (append_assoc (decimal (m / 10 ^ k)) (ascii ".") (digits k m))

pub signed_row : (k : ℕ) (z : ℤ) {m : ℕ} → m ≡ nat_abs z → sign z ++ in_places k m ≡ fixed k z
unfolding fixed
signed_row k z e = ap (λ (m : ℕ). sign z ++ in_places k m) e

pub head_row : (offset kind answer : ℕ) → (decimal offset ++ (ascii " " ++ decimal kind)) ++ (ascii " " ++ decimal answer) ≡ head_of offset kind answer
unfolding head_of
head_row offset kind answer = simp append_assoc

pub angles_row : (lat lon : ℤ) → ((ascii "lat " ++ fixed 7 lat) ++ (ascii " deg, lon " ++ fixed 7 lon)) ++ ascii " deg" ≡ angles_of lat lon
unfolding angles_of
angles_row lat lon = simp append_assoc

pub height_row : (alt : ℤ) (time : ℕ) → ((ascii ", alt " ++ fixed 2 alt) ++ (ascii " m, time " ++ decimal time)) ++ ascii " s" ≡ height_of alt time
unfolding height_of
height_row alt time = simp append_assoc

pub position_row : (offset kind : ℕ) (p : Position)
    → (((head_of offset kind 0 ++ ascii " position: ") ++ angles_of p.lat p.lon) ++ height_of p.alt p.time) ++ ascii "\n" ≡ position_line_of offset kind p.lat p.lon p.alt p.time
unfolding position_line_of
position_row offset kind p = simp append_assoc

pub line_row : (offset kind answer : ℕ) (label s : List ℕ)
    → (((head_of offset kind answer ++ ascii " ") ++ escaped label) ++ escaped s) ++ ascii "\n" ≡ line_of offset kind answer label s
unfolding line_of
line_row offset kind answer label s = simp append_assoc

seven : (a b c d e f g : List ℕ) → (((a ++ b) ++ (c ++ d)) ++ (e ++ f)) ++ g ≡ a ++ (b ++ (c ++ (d ++ (e ++ (f ++ g)))))
seven a b c d e f g = simp append_assoc

pub stop_row : (reason offset frames : ℕ)
    → (((ascii "stop " ++ decimal reason) ++ (ascii " at " ++ decimal offset)) ++ (ascii ", frames " ++ decimal frames)) ++ ascii ": " ≡ stop_of reason offset frames
unfolding stop_of
stop_row reason offset frames = seven (ascii "stop ") (decimal reason) (ascii " at ") (decimal offset) (ascii ", frames ") (decimal frames) (ascii ": ")

pub stop_line_row : (reason offset frames : ℕ) (note : List ℕ) → (stop_of reason offset frames ++ escaped note) ++ ascii "\n" ≡ stop_line_of reason offset frames note
unfolding stop_line_of
stop_line_row reason offset frames note = append_assoc (stop_of reason offset frames) (escaped note) (ascii "\n")
