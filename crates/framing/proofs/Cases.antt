-- Document 01's "Cases" that need no tag, proved of the definitions. Assumes nothing.
use Prim.Native.Nat.{ℕ}
use mathlib.Core.Path.{◌≡◌, refl, sym}
use mathlib.Core.List.{List, [], ◌∷◌, ◌++◌}
use mathlib.Core.Bool.{true, false}
use native.Mathlib.Omega.{arith}
use lib.IntN.{pos, neg_ℤ}
use lib.ListN.{length, replicate}
use Rattle.octets.specs.Numbers.{number, bytes_of}
use Rattle.answer.specs.Answers.{not_a_frame, unknown_kind, length_for_kind, cut_short}
use Rattle.framing.specs.Position.{in_range, position_of, position_bytes}
use Rattle.framing.specs.Kinds.{position, text, check_in, table, row_of, is_known, is_allowed}
use Rattle.framing.specs.Front.{Whole, Stop, mark, checks, front_of}
use Rattle.framing.specs.Scan.{none, ahead, on_front, scan_from, scan_of}
use Rattle.framing.proofs.Fronts.{wrong_mark, wrong_kind, wrong_length, no_end, whole}

-- a position frame has 48 bytes: with 44 behind its length it is whole, with 43 it is cut
pub position_48 : (rest : List ℕ) → length rest ≡ 44 → front_of (mark ∷ position ∷ 32 ∷ 0 ∷ rest) ≡ Whole position 48
unfolding is_known is_allowed row_of table
position_48 rest h = sym (whole (mark ∷ position ∷ 32 ∷ 0 ∷ rest) (omega arith) refl (omega arith) refl (omega arith) refl (omega arith))

pub position_47 : (rest : List ℕ) → length rest ≡ 43 → front_of (mark ∷ position ∷ 32 ∷ 0 ∷ rest) ≡ Stop cut_short
unfolding is_known is_allowed row_of table
position_47 rest h = sym (no_end (mark ∷ position ∷ 32 ∷ 0 ∷ rest) (omega arith) refl (omega arith) refl (omega arith) refl (omega arith))

-- text: a sealed length of 176 may stand; 177 is 11, whatever follows and even if bytes are missing too; 16 is 11
pub text_176 : (rest : List ℕ) → length rest ≡ 188 → front_of (mark ∷ text ∷ 176 ∷ 0 ∷ rest) ≡ Whole text 192
unfolding is_known is_allowed row_of table
text_176 rest h = sym (whole (mark ∷ text ∷ 176 ∷ 0 ∷ rest) (omega arith) refl (omega arith) refl (omega arith) refl (omega arith))

pub text_177 : (rest : List ℕ) → front_of (mark ∷ text ∷ 177 ∷ 0 ∷ rest) ≡ Stop length_for_kind
unfolding is_known is_allowed row_of table
text_177 rest = sym (wrong_length (mark ∷ text ∷ 177 ∷ 0 ∷ rest) (omega arith) refl (omega arith) refl (omega arith) refl)

pub text_16 : (rest : List ℕ) → front_of (mark ∷ text ∷ 16 ∷ 0 ∷ rest) ≡ Stop length_for_kind
unfolding is_known is_allowed row_of table
text_16 rest = sym (wrong_length (mark ∷ text ∷ 16 ∷ 0 ∷ rest) (omega arith) refl (omega arith) refl (omega arith) refl)

-- the order 9, 10, 11, 12: a wrong mark before an unknown kind, that before a length, each whatever follows. Orders has the same on few bytes
pub wrong_mark_first : (rest : List ℕ) → front_of (0x4A ∷ rest) ≡ Stop not_a_frame
wrong_mark_first rest = sym (wrong_mark (0x4A ∷ rest) (omega arith) (λ e. omega arith))

pub kind_4_second : (rest : List ℕ) → front_of (mark ∷ 4 ∷ rest) ≡ Stop unknown_kind
unfolding is_known row_of table
kind_4_second rest = sym (wrong_kind (mark ∷ 4 ∷ rest) (omega arith) refl (omega arith) refl)

-- the length is little-endian: 0x0020 is a position's, 0x2000 is no kind's
pub low_byte_first : (rest : List ℕ) → front_of (mark ∷ position ∷ 0 ∷ 32 ∷ rest) ≡ Stop length_for_kind
unfolding is_known is_allowed row_of table
low_byte_first rest = sym (wrong_length (mark ∷ position ∷ 0 ∷ 32 ∷ rest) (omega arith) refl (omega arith) refl (omega arith) refl)

-- an empty buffer is 12 as a frame, stop 0 as a scan
pub empty_frame : front_of [] ≡ Stop cut_short
unfolding checks front_of
empty_frame = refl

pub empty_scan : scan_of [] ≡ none 0
unfolding scan_of scan_from
empty_scan = refl

-- a whole frame scans, and one byte less does not
pub check_in_scans : scan_of (mark ∷ check_in ∷ 16 ∷ 0 ∷ replicate 28 7) ≡ record { taken = 32; frames = 1; stop = 0 }
unfolding scan_of scan_from checks front_of is_known is_allowed row_of table
check_in_scans = refl

pub check_in_cut : scan_of (mark ∷ check_in ∷ 16 ∷ 0 ∷ replicate 27 7) ≡ none cut_short
unfolding scan_of scan_from checks front_of is_known is_allowed row_of table
check_in_cut = refl

-- behind two whole frames, of 32 and 33 bytes, a scan tells the exact end, or each reason to stop, and counts two all the same
abbrev two : List ℕ
two = (0x4B ∷ 3 ∷ 16 ∷ 0 ∷ replicate 28 7) ++ (0x4B ∷ 2 ∷ 17 ∷ 0 ∷ replicate 29 8)

pub two_and_a_stop : (scan_of two ≡ record { taken = 65; frames = 2; stop = 0 }) × (scan_of (two ++ (0x4C ∷ [])) ≡ record { taken = 65; frames = 2; stop = 9 })
    × (scan_of (two ++ (0x4B ∷ 4 ∷ [])) ≡ record { taken = 65; frames = 2; stop = 10 }) × (scan_of (two ++ (0x4B ∷ 1 ∷ 33 ∷ 0 ∷ [])) ≡ record { taken = 65; frames = 2; stop = 11 })
    × (scan_of (two ++ (0x4B ∷ [])) ≡ record { taken = 65; frames = 2; stop = 12 })
unfolding scan_of scan_from checks front_of is_known is_allowed row_of table
two_and_a_stop = (refl, refl, refl, refl, refl)

-- and finds nothing behind what is no frame
pub stop_at_once : (scan_of (0x4C ∷ two) ≡ record { taken = 0; frames = 0; stop = 9 }) × (none 11 ≡ record { taken = 0; frames = 0; stop = 11 })
unfolding scan_of scan_from checks front_of
stop_at_once = (refl, refl)

-- by its parts: so many frames are looked at and no more; what is found is added to what stands before it
pub scan_parts : (scan_from 1 two ≡ record { taken = 32; frames = 1; stop = 0 }) × (scan_from 0 two ≡ record { taken = 0; frames = 0; stop = 0 })
    × (ahead 100 2 (record { taken = 30; frames = 1; stop = 9 }) ≡ record { taken = 130; frames = 3; stop = 9 })
    × (on_front (λ t. record { taken = t; frames = 5; stop = 12 }) (Whole 3 32) ≡ record { taken = 64; frames = 6; stop = 12 })
    × (on_front (λ t. record { taken = t; frames = 5; stop = 12 }) (Stop 10) ≡ record { taken = 0; frames = 0; stop = 10 })
unfolding scan_from checks front_of is_known is_allowed row_of table
scan_parts = (refl, refl, refl, refl, refl)

-- altitude 1,000,000 stands; 1,000,001 does not
pub highest : in_range (record { lat = pos 0; lon = pos 0; alt = pos 1000000; time = 0 }) ≡ true
highest = refl

pub too_high : in_range (record { lat = pos 0; lon = pos 0; alt = pos 1000001; time = 0 }) ≡ false
too_high = refl

-- both ends of each range stand, and what is next to them does not
pub southwest : in_range (record { lat = neg_ℤ (pos 900000000); lon = neg_ℤ (pos 1800000000); alt = neg_ℤ (pos 50000); time = 0 }) ≡ true
southwest = refl

pub northeast : in_range (record { lat = pos 900000000; lon = pos 1800000000; alt = pos 1000000; time = 4294967295 }) ≡ true
northeast = refl

pub too_far_south : in_range (record { lat = neg_ℤ (pos 900000001); lon = pos 0; alt = pos 0; time = 0 }) ≡ false
too_far_south = refl

pub too_far_north : in_range (record { lat = pos 900000001; lon = pos 0; alt = pos 0; time = 0 }) ≡ false
too_far_north = refl

pub too_far_west : in_range (record { lat = pos 0; lon = neg_ℤ (pos 1800000001); alt = pos 0; time = 0 }) ≡ false
too_far_west = refl

pub too_far_east : in_range (record { lat = pos 0; lon = pos 1800000001; alt = pos 0; time = 0 }) ≡ false
too_far_east = refl

pub too_deep : in_range (record { lat = pos 0; lon = pos 0; alt = neg_ℤ (pos 50001); time = 0 }) ≡ false
too_deep = refl

-- the bytes of a position: little-endian, two's complement; Mount Everest's top, and the lowest latitude
pub everest : position_bytes (record { lat = pos 279881000; lon = pos 869250000; alt = pos 884886; time = 1 })
    ≡ 0x28 ∷ 0xA5 ∷ 0xAE ∷ 0x10 ∷ 0xD0 ∷ 0xB3 ∷ 0xCF ∷ 0x33 ∷ 0x96 ∷ 0x80 ∷ 0x0D ∷ 0x00 ∷ 1 ∷ 0 ∷ 0 ∷ 0 ∷ []
unfolding position_bytes bytes_of
everest = refl

pub south_pole : position_of (0x00 ∷ 0x17 ∷ 0x5B ∷ 0xCA ∷ replicate 12 0) ≡ record { lat = neg_ℤ (pos 900000000); lon = pos 0; alt = pos 0; time = 0 }
unfolding position_of number
south_pole = refl
