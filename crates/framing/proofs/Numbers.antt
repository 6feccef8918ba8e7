-- The numbers of document 01, "Frame", each by itself and as a literal, so that two names exchanged or a row, a range or a field in the wrong place
-- is noticed. Assumes nothing.
use Prim.Native.Nat.{ℕ}
use mathlib.Core.Path.{◌≡◌, refl}
use mathlib.Core.List.{List, [], ◌∷◌, map}
use mathlib.Core.Bool.{true, false}
use lib.IntN.{pos, negsuc, neg_ℤ}
use Rattle.octets.specs.Numbers.{number, bytes_of}
use Rattle.framing.specs.declared.position.Position.{Position}
use Rattle.std.specs.Prelude.{Some, None}
use Rattle.framing.specs.Signed.{signed, bits_of}
use Rattle.framing.specs.Position.{lat_min, lat_max, lon_min, lon_max, alt_min, alt_max, within, in_range, field_at, position_of, position_bytes}
use Rattle.framing.specs.Kinds.{position, text, check_in, row, table, find_in, row_of, holds, known, allows, is_known, is_allowed, greatest, max_frame_plaintext, longest_frame}
use Rattle.framing.specs.Front.{mark, kind_of, sealed_len, taken_of}

-- "Byte 0: 0x4B", and the kinds
pub mark_and_kinds : (mark ≡ 0x4B) × (position ≡ 1) × (text ≡ 2) × (check_in ≡ 3)
mark_and_kinds = (refl, refl, refl, refl)

-- the table: number, least and greatest plaintext, step
pub three_rows : table ≡ record { number = 1; least = 16; most = 16; step = 16 } ∷ record { number = 2; least = 1; most = 160; step = 1 } ∷ record { number = 3; least = 0; most = 0; step = 1 } ∷ []
unfolding table
three_rows = refl

-- the row of a kind is the first with its number
pub found_rows : (find_in (row 5 1 1 1 ∷ row 6 2 2 1 ∷ row 6 3 3 1 ∷ []) 6 ≡ Some (row 6 2 2 1)) × (find_in (row 5 1 1 1 ∷ []) 6 ≡ None)
    × (row_of 1 ≡ Some (row 1 16 16 16)) × (row_of 2 ≡ Some (row 2 1 160 1)) × (row_of 3 ≡ Some (row 3 0 0 1)) × (row_of 0 ≡ None) × (row_of 4 ≡ None)
unfolding row_of table
found_rows = (refl, refl, refl, refl, refl, refl, refl)

pub known_rows : (known (Some (row 5 1 1 1)) ≡ true) × (known None ≡ false) × (map is_known (0 ∷ 1 ∷ 2 ∷ 3 ∷ 4 ∷ 75 ∷ []) ≡ false ∷ true ∷ true ∷ true ∷ false ∷ false ∷ [])
unfolding is_known row_of table
known_rows = (refl, refl, refl)

-- a row's lengths go by its step, from its least to its greatest
pub stepped_lengths : map (holds (row 0 16 48 16)) (0 ∷ 15 ∷ 16 ∷ 17 ∷ 32 ∷ 47 ∷ 48 ∷ 49 ∷ 64 ∷ []) ≡ false ∷ false ∷ true ∷ false ∷ true ∷ false ∷ true ∷ false ∷ false ∷ []
stepped_lengths = refl

-- a sealed part is 16 bytes longer than its plaintext: here one of 5, 7 or 9
pub row_lengths : (map (allows (Some (row 4 5 9 2))) (5 ∷ 15 ∷ 16 ∷ 20 ∷ 21 ∷ 22 ∷ 23 ∷ 24 ∷ 25 ∷ 26 ∷ 27 ∷ [])
    ≡ false ∷ false ∷ false ∷ false ∷ true ∷ false ∷ true ∷ false ∷ true ∷ false ∷ false ∷ [])
    × (map (allows None) (0 ∷ 16 ∷ 20 ∷ []) ≡ false ∷ false ∷ false ∷ [])
row_lengths = (refl, refl)

-- position 32; text 17 to 176; check-in 16; and what is next to each
pub sealed_lengths : (map (is_allowed 1) (0 ∷ 16 ∷ 31 ∷ 32 ∷ 33 ∷ 48 ∷ 288 ∷ []) ≡ false ∷ false ∷ false ∷ true ∷ false ∷ false ∷ false ∷ [])
    × (map (is_allowed 2) (0 ∷ 16 ∷ 17 ∷ 99 ∷ 176 ∷ 177 ∷ 192 ∷ 256 ∷ 273 ∷ []) ≡ false ∷ false ∷ true ∷ true ∷ true ∷ false ∷ false ∷ false ∷ false ∷ [])
    × (map (is_allowed 3) (0 ∷ 15 ∷ 16 ∷ 17 ∷ 32 ∷ 272 ∷ []) ≡ false ∷ false ∷ true ∷ false ∷ false ∷ false ∷ [])
unfolding is_allowed row_of table
sealed_lengths = (refl, refl, refl)

-- a text of 160 bytes is the longest plaintext, and its frame, of 192, the longest frame
pub longest_plaintext : (greatest [] ≡ 0) × (greatest (row 1 5 5 1 ∷ row 2 0 9 1 ∷ row 3 0 7 1 ∷ []) ≡ 9) × (max_frame_plaintext ≡ 160) × (longest_frame ≡ 192)
unfolding max_frame_plaintext table
longest_plaintext = (refl, refl, refl, refl)

-- byte 1, bytes 2 and 3 with the low one first, and 16 bytes more than these say
pub first_four : (kind_of (9 ∷ 8 ∷ 7 ∷ 6 ∷ 5 ∷ []) ≡ 8) × (sealed_len (9 ∷ 8 ∷ 7 ∷ 6 ∷ 5 ∷ []) ≡ 1543) × (taken_of (9 ∷ 8 ∷ 7 ∷ 6 ∷ 5 ∷ []) ≡ 1559)
first_four = (refl, refl, refl)

-- two's complement of 32 bits, at both ends of each half
pub signed_numbers : (signed 0 ≡ pos 0) × (signed 2147483647 ≡ pos 2147483647) × (signed 2147483648 ≡ neg_ℤ (pos 2147483648)) × (signed 4294967295 ≡ neg_ℤ (pos 1))
signed_numbers = (refl, refl, refl, refl)

pub numbers_signed : (bits_of (pos 0) ≡ 0) × (bits_of (pos 2147483647) ≡ 2147483647) × (bits_of (neg_ℤ (pos 2147483648)) ≡ 2147483648) × (bits_of (neg_ℤ (pos 1)) ≡ 4294967295)
numbers_signed = (refl, refl, refl, refl)

-- the ranges' ends: -900,000,000 to 900,000,000; -1,800,000,000 to 1,800,000,000; -50,000 to 1,000,000. (`negsuc n` is -1 - n.)
pub ranges : (lat_min ≡ negsuc 899999999) × (lat_max ≡ pos 900000000) × (lon_min ≡ negsuc 1799999999) × (lon_max ≡ pos 1800000000) × (alt_min ≡ negsuc 49999) × (alt_max ≡ pos 1000000)
ranges = (refl, refl, refl, refl, refl, refl)

-- both ends stand
pub ends_included : map (within (neg_ℤ (pos 2)) (pos 3)) (neg_ℤ (pos 3) ∷ neg_ℤ (pos 2) ∷ pos 0 ∷ pos 3 ∷ pos 4 ∷ []) ≡ false ∷ true ∷ true ∷ true ∷ false ∷ []
ends_included = refl

-- the layout of a position, both ways: sixteen different bytes
abbrev somewhere : Position
somewhere = record { lat = neg_ℤ (pos 197975535); lon = pos 142042709; alt = pos 764569; time = 285208285 }

abbrev sixteen : List ℕ
sixteen = 0x11 ∷ 0x22 ∷ 0x33 ∷ 0xF4 ∷ 0x55 ∷ 0x66 ∷ 0x77 ∷ 0x08 ∷ 0x99 ∷ 0xAA ∷ 0x0B ∷ 0x00 ∷ 0xDD ∷ 0xEE ∷ 0xFF ∷ 0x10 ∷ []

pub sixteen_read : position_of sixteen ≡ somewhere
unfolding position_of number
sixteen_read = refl

pub sixteen_written : position_bytes somewhere ≡ sixteen
unfolding position_bytes bytes_of
sixteen_written = refl

pub sixteen_in_range : in_range somewhere ≡ true
sixteen_in_range = refl

pub fields_at : (field_at 0 sixteen ≡ 0xF4332211) × (field_at 4 sixteen ≡ 0x08776655) × (field_at 12 sixteen ≡ 0x10FFEEDD)
unfolding number
fields_at = (refl, refl, refl)
