-- What the words of the line protocol say: bytes as two lower-case hex digits each, the high one first; numbers as decimal digits,
-- any count of leading zeros allowed, below 2^64. Assumes nothing.
use Rattle.std.specs.Prelude.{ℕ, ◌+◌, ◌-◌, ◌*◌, ◌/◌, ◌%◌, ◌^◌, Bool, true, false, cond, ◌&&◌, ◌≡◌, List, [], ◌∷◌, ◌++◌, leb, ltb, eqb, length, take, drop, Option, Some, None}

-- the value of `0` to `9` and `a` to `f`; 16 for every other byte
abbrev pub digit : ℕ → ℕ
digit b = cond (leb 48 b && ltb b 58) (b - 48) (cond (leb 97 b && ltb b 103) (b - 87) 16)

-- the same as a call says it: none where there is no digit
abbrev pub digit_of : ℕ → Option ℕ
digit_of b = cond (ltb (digit b) 16) (Some (digit b)) None

-- the hex digit of the low four bits of n
abbrev pub letter : ℕ → ℕ
letter n = cond (ltb (n % 16) 10) (48 + n % 16) (87 + n % 16)

-- every byte is a hex digit
unfoldable pub all_hex : List ℕ → Bool
all_hex [] = true
all_hex (b ∷ s) = ltb (digit b) 16 && all_hex s

-- hex text of whole bytes
abbrev pub is_hex : List ℕ → Bool
is_hex s = eqb (length s % 2) 0 && all_hex s

-- the bytes that hex text spells; what is no digit counts as 0, and a last odd digit as nothing
unfoldable pub spelled : List ℕ → List ℕ
spelled [] = []
spelled (h ∷ []) = []
spelled (h ∷ l ∷ s) = (digit h % 16 * 16 + digit l % 16) ∷ spelled s

-- the hex text of bytes
unfoldable pub spelling : List ℕ → List ℕ
spelling [] = []
spelling (b ∷ s) = letter (b / 16) ∷ (letter b ∷ spelling s)

-- `0` to `9`
abbrev pub is_decimal : ℕ → Bool
is_decimal b = leb 48 b && ltb b 58

-- every byte is a decimal digit
unfoldable pub all_decimal : List ℕ → Bool
all_decimal [] = true
all_decimal (b ∷ s) = is_decimal b && all_decimal s

-- the number v with the decimal digits of s written behind it
unfoldable pub followed : ℕ → List ℕ → ℕ
followed v [] = v
followed v (b ∷ s) = followed (v * 10 + (b - 48)) s

-- a word that is one digit or more, and whose number fits 64 bits
abbrev pub is_number : List ℕ → Bool
is_number s = ltb 0 (length s) && (all_decimal s && ltb (followed 0 s) (2 ^ 64))

abbrev pub number_of : List ℕ → Option ℕ
number_of s = cond (is_number s) (Some (followed 0 s)) None

-- the number v with one more digit behind it, where b is one and the number fits
abbrev pub longer_by : ℕ → ℕ → Option ℕ
longer_by v b = cond (is_decimal b && ltb (v * 10 + (b - 48)) (2 ^ 64)) (Some (v * 10 + (b - 48))) None

-- a call put the first n of `made` at the front of a lent buffer, left what follows, and answered n
pub record Put (answer n : ℕ) (made entry exit : List ℕ) : Type 0 where
  pub count : answer ≡ n
  pub memory : exit ≡ take n made ++ drop n entry

-- the number and the value of each case, and zero where it has none: whether a word is a number, and which
pub record Values : Type 0 where
  pub is : Bool
  pub value : ℕ

abbrev pub values_of : Option ℕ → Values
values_of (Some n) = record { is = true; value = n }
values_of None = record { is = false; value = 0 }
