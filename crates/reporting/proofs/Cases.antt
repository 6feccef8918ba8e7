-- What the definitions say of the ends of each range and of the numbers next to 0, of some bytes, and of each line and its pieces.
-- Assumes nothing.
use mathlib.Core.Path.{◌≡◌, refl}
use mathlib.Core.List.{[], ◌∷◌, map}
use mathlib.Core.Bool.{true, false}
use lib.IntN.{pos, negsuc, neg_ℤ}
use Rattle.reporting.specs.Ascii.{ascii}
use Rattle.reporting.specs.Numbers.{last_digit, digits, leading, digit_count, decimal, sign, in_places, fixed}
use Rattle.reporting.specs.Escapes.{plain, hex_digit, hex_escape, shown, escaped}
use Rattle.reporting.specs.Lines.{head_of, line_of, angles_of, height_of, position_line_of, stop_of, stop_line_of, room_for}

-- the codes of the page's own characters, by number
pub codes : ascii " 09af~\n" ≡ 0x20 ∷ 0x30 ∷ 0x39 ∷ 0x61 ∷ 0x66 ∷ 0x7E ∷ 0x0A ∷ []
codes = refl

-- decimal at both ends of one digit, of two, and at the largest number, 2^64 - 1
pub numbers : map decimal (0 ∷ 9 ∷ 10 ∷ 99 ∷ 100 ∷ 18446744073709551615 ∷ [])
    ≡ ascii "0" ∷ ascii "9" ∷ ascii "10" ∷ ascii "99" ∷ ascii "100" ∷ ascii "18446744073709551615" ∷ []
unfolding decimal leading digits
numbers = refl

pub digit_counts : map digit_count (0 ∷ 9 ∷ 10 ∷ 99 ∷ 100 ∷ 18446744073709551615 ∷ []) ≡ 1 ∷ 1 ∷ 2 ∷ 2 ∷ 3 ∷ 20 ∷ []
unfolding leading
digit_counts = refl

pub last_digits : map last_digit (0 ∷ 9 ∷ 10 ∷ 19 ∷ []) ≡ ascii "0909"
last_digits = refl

-- so many digits and no more, zeros in front
pub so_many_digits : (digits 0 7 ≡ []) × (digits 3 7 ≡ ascii "007") × (digits 2 1234 ≡ ascii "34")
unfolding digits
so_many_digits = (refl, refl, refl)

pub signs : map sign (pos 0 ∷ pos 1 ∷ negsuc 0 ∷ []) ≡ [] ∷ [] ∷ ascii "-" ∷ []
signs = refl

pub places : (in_places 0 7 ≡ ascii "7.") × (in_places 2 0 ≡ ascii "0.00") × (in_places 2 7 ≡ ascii "0.07") × (in_places 2 123 ≡ ascii "1.23")
unfolding in_places decimal leading digits
places = (refl, refl, refl, refl)

-- a minus sign stands before 0 too
pub minus_one : fixed 7 (negsuc 0) ≡ ascii "-0.0000001"
unfolding fixed in_places decimal leading digits
minus_one = refl

pub just_above_minus_one_degree : fixed 7 (neg_ℤ (pos 9999999)) ≡ ascii "-0.9999999"
unfolding fixed in_places decimal leading digits
just_above_minus_one_degree = refl

pub minus_one_degree : fixed 7 (neg_ℤ (pos 10000000)) ≡ ascii "-1.0000000"
unfolding fixed in_places decimal leading digits
minus_one_degree = refl

pub nothing : fixed 7 (pos 0) ≡ ascii "0.0000000"
unfolding fixed in_places decimal leading digits
nothing = refl

pub poles : (fixed 7 (neg_ℤ (pos 900000000)) ≡ ascii "-90.0000000") × (fixed 7 (pos 900000000) ≡ ascii "90.0000000")
unfolding fixed in_places decimal leading digits
poles = (refl, refl)

pub meridian : (fixed 7 (neg_ℤ (pos 1800000000)) ≡ ascii "-180.0000000") × (fixed 7 (pos 1799999999) ≡ ascii "179.9999999")
unfolding fixed in_places decimal leading digits
meridian = (refl, refl)

pub one_centimetre_down : fixed 2 (negsuc 0) ≡ ascii "-0.01"
unfolding fixed in_places decimal leading digits
one_centimetre_down = refl

pub heights : (fixed 2 (neg_ℤ (pos 50000)) ≡ ascii "-500.00") × (fixed 2 (pos 1000000) ≡ ascii "10000.00")
unfolding fixed in_places decimal leading digits
heights = (refl, refl)

-- every signed word, the lowest among them
pub lowest_word : fixed 7 (neg_ℤ (pos 2147483648)) ≡ ascii "-214.7483648"
unfolding fixed in_places decimal leading digits
lowest_word = refl

-- an escape of a terminal, an escape as this page writes it, and the ends of what is plain
pub terminal : escaped (0x1B ∷ ascii "[2J") ≡ ascii "\\x1b[2J"
unfolding escaped shown
terminal = refl

pub not_an_escape : escaped (ascii "\\x1b") ≡ ascii "\\x5cx1b"
unfolding escaped shown
not_an_escape = refl

pub ends : map shown (0x00 ∷ 0x0A ∷ 0x1F ∷ 0x20 ∷ 0x5B ∷ 0x5C ∷ 0x5D ∷ 0x7E ∷ 0x7F ∷ 0x9A ∷ 0xFF ∷ [])
    ≡ ascii "\\x00" ∷ ascii "\\x0a" ∷ ascii "\\x1f" ∷ ascii " " ∷ ascii "[" ∷ ascii "\\x5c" ∷ ascii "]" ∷ ascii "~" ∷ ascii "\\x7f" ∷ ascii "\\x9a" ∷ ascii "\\xff" ∷ []
unfolding shown
ends = refl

pub plain_bytes : map plain (0x1F ∷ 0x20 ∷ 0x5B ∷ 0x5C ∷ 0x5D ∷ 0x7E ∷ 0x7F ∷ 0xFF ∷ []) ≡ false ∷ true ∷ true ∷ false ∷ true ∷ true ∷ false ∷ false ∷ []
plain_bytes = refl

pub hex_digits : map hex_digit (0 ∷ 9 ∷ 10 ∷ 15 ∷ []) ≡ ascii "09af"
hex_digits = refl

-- the high digit first
pub hex_escapes : map hex_escape (0x1F ∷ 0xA0 ∷ []) ≡ ascii "\\x1f" ∷ ascii "\\xa0" ∷ []
hex_escapes = refl

-- the pieces of a line, with their fields in order
pub a_head : head_of 1 2 3 ≡ ascii "1 2 3"
unfolding head_of decimal leading digits
a_head = refl

pub some_angles : angles_of (neg_ℤ (pos 10000000)) (pos 20000000) ≡ ascii "lat -1.0000000 deg, lon 2.0000000 deg"
unfolding angles_of fixed in_places decimal leading digits
some_angles = refl

pub a_height : height_of (negsuc 0) 5 ≡ ascii ", alt -0.01 m, time 5 s"
unfolding height_of fixed in_places decimal leading digits
a_height = refl

pub a_reason : stop_of 9 2 1 ≡ ascii "stop 9 at 2, frames 1: "
unfolding stop_of decimal leading digits
a_reason = refl

-- whole lines
pub a_position : position_line_of 48 1 (pos 279881206) (pos 869249751) (pos 884886) 1731642000 ≡ ascii "48 1 0 position: lat 27.9881206 deg, lon 86.9249751 deg, alt 8848.86 m, time 1731642000 s\n"
unfolding position_line_of head_of angles_of height_of fixed in_places decimal leading digits
a_position = refl

pub a_refusal : line_of 96 2 8 (ascii "refused: ") (ascii "the tag differs") ≡ ascii "96 2 8 refused: the tag differs\n"
unfolding line_of head_of escaped shown decimal leading digits
a_refusal = refl

pub a_stop : stop_line_of 12 215 3 (ascii "cut short") ≡ ascii "stop 12 at 215, frames 3: cut short\n"
unfolding stop_line_of stop_of escaped shown decimal leading digits
a_stop = refl

-- what others chose is escaped wherever it stands: in a label, in a text, in a note
pub nothing_forged : (line_of 0 2 0 (0x0A ∷ []) (0x1B ∷ []) ≡ ascii "0 2 0 \\x0a\\x1b\n") × (stop_line_of 9 0 0 (0x0A ∷ []) ≡ ascii "stop 9 at 0, frames 0: \\x0a\n")
unfolding line_of stop_line_of head_of stop_of escaped shown decimal leading digits
nothing_forged = (refl, refl)

-- the room that a line is asked for: 256 bytes, and four for each to escape
pub rooms : map room_for (0 ∷ 1 ∷ 160 ∷ []) ≡ 256 ∷ 260 ∷ 896 ∷ []
rooms = refl
