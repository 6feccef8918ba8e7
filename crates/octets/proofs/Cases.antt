-- The definitions computed on small strings, each at both sides of where it changes. Assumes nothing.
use Prim.Native.Nat.{ℕ}
use mathlib.Core.Path.{◌≡◌, refl, sym, ◌∙◌}
use mathlib.Core.Bool.{true, false}
use mathlib.Core.List.{List, [], ◌∷◌}
use Rattle.octets.specs.Xor.{◌⊕◌}
use Rattle.octets.specs.Numbers.{number, bytes_of}
use Rattle.octets.specs.Places.{placed, over, has_room, Wrote, Puts}
use Rattle.octets.specs.Strings.{xor_bytes, copied, same_bytes}
use Rattle.octets.specs.Joined.{Joined}

-- document 01, "Field": add is XOR
pub digits_added : 0x0c ⊕ 0x0a ≡ 0x06
unfolding ◌⊕◌
digits_added = refl

-- the first byte is the lowest, of a number and of its bytes
pub first_is_lowest : number (0x34 ∷ 0x12 ∷ []) ≡ 0x1234
unfolding number
first_is_lowest = refl

pub lowest_is_first : bytes_of 3 0x1234 ≡ 0x34 ∷ 0x12 ∷ 0 ∷ []
unfolding bytes_of
lowest_is_first = refl

-- as many bytes go as come, and the others stay
pub placed-within : placed (1 ∷ 2 ∷ 3 ∷ 4 ∷ []) 1 (8 ∷ 9 ∷ []) ≡ 1 ∷ 8 ∷ 9 ∷ 4 ∷ []
placed-within = refl

pub over_the_front : over (8 ∷ 9 ∷ []) (1 ∷ 2 ∷ 3 ∷ []) ≡ 8 ∷ 9 ∷ 3 ∷ []
over_the_front = refl

-- room to the last byte, and none behind it
pub room_to_the_end : (has_room (1 ∷ 2 ∷ 3 ∷ []) 1 (8 ∷ 9 ∷ []) ≡ true) × (has_room (1 ∷ 2 ∷ 3 ∷ []) 2 (8 ∷ 9 ∷ []) ≡ false)
room_to_the_end = (refl, refl)

-- what the three promises say, at values: a piece in its place, with and without room; the number of two bytes
pub wrote_values : Wrote (1 ∷ 2 ∷ 3 ∷ []) 1 (8 ∷ []) (1 ∷ 8 ∷ 3 ∷ []) 2
wrote_values = record { out_is = refl; next_is = refl }

pub puts_values : Puts (1 ∷ 2 ∷ 3 ∷ []) 1 (8 ∷ 9 ∷ []) (1 ∷ 8 ∷ 9 ∷ []) 3 × Puts (1 ∷ 2 ∷ 3 ∷ []) 2 (8 ∷ 9 ∷ []) (1 ∷ 2 ∷ 3 ∷ []) 2
puts_values = (record { out_is = refl; next_is = refl }, record { out_is = refl; next_is = refl })

pub joined_values : Joined (0x34 ∷ 0x12 ∷ []) 0x1234
unfolding number bytes_of
joined_values = record { value = refl; back = refl }

-- and none of them leaves a choice
pub wrote_fixes : {out s o p : List ℕ} {at m n : ℕ} → Wrote out at s o m → Wrote out at s p n → (o ≡ p) × (m ≡ n)
wrote_fixes a b = (a.out_is ∙ sym b.out_is, a.next_is ∙ sym b.next_is)

pub puts_fixes : {out s o p : List ℕ} {at m n : ℕ} → Puts out at s o m → Puts out at s p n → (o ≡ p) × (m ≡ n)
puts_fixes a b = (a.out_is ∙ sym b.out_is, a.next_is ∙ sym b.next_is)

pub joined_fixes : {bytes : List ℕ} {m n : ℕ} → Joined bytes m → Joined bytes n → m ≡ n
joined_fixes a b = a.value ∙ sym b.value

-- a pad that is shorter, and one that is longer
pub pad_runs_out : xor_bytes (1 ∷ 2 ∷ 3 ∷ []) (1 ∷ 1 ∷ []) ≡ 0 ∷ 3 ∷ 3 ∷ []
unfolding xor_bytes ◌⊕◌
pad_runs_out = refl

pub text_runs_out : xor_bytes (1 ∷ []) (1 ∷ 1 ∷ []) ≡ 0 ∷ []
unfolding xor_bytes ◌⊕◌
text_runs_out = refl

-- a source that is shorter, and one that is longer
pub source_runs_out : copied (7 ∷ []) (1 ∷ 2 ∷ []) ≡ 7 ∷ 2 ∷ []
unfolding copied
source_runs_out = refl

pub buffer_runs_out : copied (7 ∷ 8 ∷ 9 ∷ []) (1 ∷ 2 ∷ []) ≡ 7 ∷ 8 ∷ []
unfolding copied
buffer_runs_out = refl

-- a last byte that differs, one too many, one too few
pub same_and_not : (same_bytes (1 ∷ 2 ∷ []) (1 ∷ 2 ∷ []) ≡ true) × (same_bytes (1 ∷ 2 ∷ []) (1 ∷ 3 ∷ []) ≡ false)
    × (same_bytes (1 ∷ 2 ∷ []) (1 ∷ []) ≡ false) × (same_bytes (1 ∷ []) (1 ∷ 2 ∷ []) ≡ false)
unfolding same_bytes
same_and_not = (refl, refl, refl, refl)
