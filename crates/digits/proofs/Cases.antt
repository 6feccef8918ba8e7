-- Cases of the definitions: both ends of each range of digits, odd text, what is no digit, the largest number and one more, and the
-- values of each answer. Assumes nothing.
use Prim.Native.Nat.{ℕ, ◌-◌, ◌^◌}
use mathlib.Core.Path.{◌≡◌, refl}
use mathlib.Core.Bool.{true, false}
use mathlib.Core.List.{[], ◌∷◌, map}
use Rattle.std.specs.Prelude.{Some, None}
use Rattle.digits.specs.Text.{digit, digit_of, letter, all_hex, is_hex, spelled, spelling, is_decimal, all_decimal, followed, number_of, longer_by, Put, values_of}

-- `0`, `9`, `a`, `f`, and their neighbours; `A` is none
pub hex_values : map digit (47 ∷ 48 ∷ 57 ∷ 58 ∷ 65 ∷ 96 ∷ 97 ∷ 102 ∷ 103 ∷ []) ≡ 16 ∷ 0 ∷ 9 ∷ 16 ∷ 16 ∷ 16 ∷ 10 ∷ 15 ∷ 16 ∷ []
hex_values = refl

-- as a call says them
pub digits_of : map digit_of (47 ∷ 48 ∷ 57 ∷ 58 ∷ 65 ∷ 96 ∷ 97 ∷ 102 ∷ 103 ∷ []) ≡ None ∷ Some 0 ∷ Some 9 ∷ None ∷ None ∷ None ∷ Some 10 ∷ Some 15 ∷ None ∷ []
digits_of = refl

-- of the low four bits
pub hex_letters : map letter (0 ∷ 9 ∷ 10 ∷ 15 ∷ 16 ∷ 31 ∷ []) ≡ 48 ∷ 57 ∷ 97 ∷ 102 ∷ 48 ∷ 102 ∷ []
hex_letters = refl

-- `c2`, no text, `c24` and, with `g` in either place, `g2` and `2g`
pub hex_texts : map is_hex ((99 ∷ 50 ∷ []) ∷ [] ∷ (99 ∷ 50 ∷ 52 ∷ []) ∷ (103 ∷ 50 ∷ []) ∷ (50 ∷ 103 ∷ []) ∷ []) ≡ true ∷ true ∷ false ∷ false ∷ false ∷ []
unfolding all_hex
hex_texts = refl

-- the high digit first; a last odd digit is nothing, and what is no digit counts as 0
pub spelled_bytes : map spelled ((99 ∷ 50 ∷ 48 ∷ 49 ∷ []) ∷ (99 ∷ 50 ∷ 52 ∷ []) ∷ (103 ∷ 50 ∷ []) ∷ (50 ∷ 103 ∷ []) ∷ []) ≡ (194 ∷ 1 ∷ []) ∷ (194 ∷ []) ∷ (2 ∷ []) ∷ (32 ∷ []) ∷ []
unfolding spelled
spelled_bytes = refl

pub spelling_text : spelling (194 ∷ 1 ∷ []) ≡ 99 ∷ 50 ∷ 48 ∷ 49 ∷ []
unfolding spelling
spelling_text = refl

-- two of three bytes made at the front of a buffer of four, which keeps the other two
pub put_bytes : Put 2 2 (7 ∷ 8 ∷ 9 ∷ []) (1 ∷ 2 ∷ 3 ∷ 4 ∷ []) (7 ∷ 8 ∷ 3 ∷ 4 ∷ [])
put_bytes = record { count = refl; memory = refl }

pub decimal_digits : map is_decimal (47 ∷ 48 ∷ 57 ∷ 58 ∷ []) ≡ false ∷ true ∷ true ∷ false ∷ []
decimal_digits = refl

-- `12`, no text, and, with `a` in either place, `1a` and `a1`
pub decimal_texts : map all_decimal ((49 ∷ 50 ∷ []) ∷ [] ∷ (49 ∷ 97 ∷ []) ∷ (97 ∷ 49 ∷ []) ∷ []) ≡ true ∷ true ∷ false ∷ false ∷ []
unfolding all_decimal
decimal_texts = refl

pub followed_by : (followed 7 [] ≡ 7) × (followed 7 (49 ∷ 50 ∷ []) ≡ 712)
unfolding followed
followed_by = (refl, refl)

-- no digit is no number; `007` is 7; `7a` is none
pub some_numbers : map number_of ([] ∷ (48 ∷ []) ∷ (48 ∷ 48 ∷ 55 ∷ []) ∷ (55 ∷ 97 ∷ []) ∷ []) ≡ None ∷ Some 0 ∷ Some 7 ∷ None ∷ []
unfolding all_decimal followed
some_numbers = refl

-- 2^64 - 1 is a number and 2^64 is none
pub largest : number_of (49 ∷ 56 ∷ 52 ∷ 52 ∷ 54 ∷ 55 ∷ 52 ∷ 52 ∷ 48 ∷ 55 ∷ 51 ∷ 55 ∷ 48 ∷ 57 ∷ 53 ∷ 53 ∷ 49 ∷ 54 ∷ 49 ∷ 53 ∷ []) ≡ Some (2 ^ 64 - 1)
unfolding all_decimal followed
largest = refl

pub one_too_large : number_of (49 ∷ 56 ∷ 52 ∷ 52 ∷ 54 ∷ 55 ∷ 52 ∷ 52 ∷ 48 ∷ 55 ∷ 51 ∷ 55 ∷ 48 ∷ 57 ∷ 53 ∷ 53 ∷ 49 ∷ 54 ∷ 49 ∷ 54 ∷ []) ≡ None
unfolding all_decimal followed
one_too_large = refl

-- one more digit: `2` behind 1, `a` behind it, and both sides of 2^64
pub one_longer : (longer_by 1 50 ≡ Some 12) × (longer_by 1 97 ≡ None) × (longer_by 1844674407370955161 53 ≡ Some (2 ^ 64 - 1)) × (longer_by 1844674407370955161 54 ≡ None)
one_longer = (refl, refl, refl, refl)

-- each case's number and value, and zero where it has none
pub is_values : (n : ℕ) → values_of (Some n) ≡ record { is = true; value = n }
is_values n = refl

pub no_values : values_of None ≡ record { is = false; value = 0 }
no_values = refl
