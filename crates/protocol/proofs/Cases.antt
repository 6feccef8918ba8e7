-- What the definitions say of small examples, computed. Assumes nothing.
use Prim.Native.Nat.{ℕ, ◌+◌, ◌*◌}
use mathlib.Core.Path.{◌≡◌, refl}
use mathlib.Core.Bool.{false}
use Rattle.std.specs.Prelude.{Some}
use mathlib.Core.List.{List, [], ◌∷◌, ◌++◌}
use lib.ListN.{replicate}
use Rattle.octets.specs.Numbers.{number}
use Rattle.octets.specs.Strings.{copied}
use Rattle.protocol.specs.declared.words.Words.{Words}
use Rattle.protocol.specs.declared.said.Said.{Said}
use Rattle.protocol.specs.Input.{nothing_read, between_lines}
use Rattle.protocol.specs.Parts.{part_of}
use Rattle.protocol.specs.Words.{slot_at, span_of, block_of, spelled_high_first}
use Rattle.protocol.specs.Said.{numbers_of, in_kind, with_bytes}

abbrev line : List ℕ
line = 10 ∷ 11 ∷ 12 ∷ 13 ∷ []

-- a part has the byte at its start and not that at its end
pub part_between : part_of line 1 3 ≡ 11 ∷ 12 ∷ []
part_between = refl

pub part_whole : part_of line 0 4 ≡ line
part_whole = refl

-- none that ends past the end or before it begins; an empty one is empty
pub no_part_past : part_of line 1 5 ≡ []
no_part_past = refl

pub no_part_backwards : part_of line 3 2 ≡ []
no_part_backwards = refl

pub part_empty : part_of line 4 4 ≡ []
part_empty = refl

-- two words: bytes 0 to 1 of the arena, which say the number 7, and bytes 1 to 4, which say 9
abbrev two : Words
two = record { slots = record { from = 0; to = 1; number = 7 } ∷ record { from = 1; to = 4; number = 9 } ∷ []; room = Some 5 }

pub slot_of_a_word : slot_at two 1 0 ∷ slot_at two 1 1 ∷ slot_at two 1 2 ∷ [] ≡ 1 ∷ 4 ∷ 9 ∷ []
slot_of_a_word = refl

pub slot_past_the_last : slot_at two 2 0 ∷ slot_at two 2 1 ∷ slot_at two 2 2 ∷ [] ≡ 0 ∷ 0 ∷ 0 ∷ []
slot_past_the_last = refl

pub span_of_a_word : span_of two line 1 1 ≡ 11 ∷ 12 ∷ 13 ∷ []
span_of_a_word = refl

pub span_of_two_words : span_of two line 0 1 ≡ line
span_of_two_words = refl

-- an element is 16 bytes: zeros behind a shorter word, and nothing of a longer one
pub block_of_a_short_word : block_of (1 ∷ 2 ∷ []) ≡ 1 ∷ 2 ∷ replicate 14 0
unfolding copied
block_of_a_short_word = refl

pub block_of_a_long_word : block_of (replicate 16 3 ++ (4 ∷ [])) ≡ replicate 16 3
unfolding copied
block_of_a_long_word = refl

-- a word in hex is spelled with its highest digit first, and has 64 bits
pub high_byte_first : spelled_high_first (1 ∷ 2 ∷ 3 ∷ []) ≡ 3 + 256 * (2 + 256 * 1)
unfolding spelled_high_first number
high_byte_first = refl

pub eight_bytes_kept : spelled_high_first (128 ∷ replicate 7 0) ≡ 9223372036854775808
unfolding spelled_high_first number
eight_bytes_kept = refl

pub ninth_byte_lost : spelled_high_first (1 ∷ replicate 8 0) ≡ 0
unfolding spelled_high_first number
ninth_byte_lost = refl

-- what a call said, field by field
abbrev fields : Said → List ℕ
fields s = s.kind ∷ s.bytes ∷ s.numbers

pub said_numbers : fields (numbers_of (5 ∷ 6 ∷ 7 ∷ [])) ≡ 0 ∷ 0 ∷ 5 ∷ 6 ∷ 7 ∷ 0 ∷ 0 ∷ []
unfolding copied
said_numbers = refl

-- a sixth is lost
pub said_six : fields (numbers_of (1 ∷ 2 ∷ 3 ∷ 4 ∷ 5 ∷ 6 ∷ [])) ≡ 0 ∷ 0 ∷ 1 ∷ 2 ∷ 3 ∷ 4 ∷ 5 ∷ []
unfolding copied
said_six = refl

abbrev full : Said
full = record { kind = 1; bytes = 2; numbers = 3 ∷ 4 ∷ 5 ∷ 6 ∷ 7 ∷ [] }

pub said_in_another_kind : fields (in_kind full 8) ≡ 8 ∷ 2 ∷ 3 ∷ 4 ∷ 5 ∷ 6 ∷ 7 ∷ []
said_in_another_kind = refl

pub said_with_bytes : fields (with_bytes full 8) ≡ 1 ∷ 8 ∷ 3 ∷ 4 ∷ 5 ∷ 6 ∷ 7 ∷ []
said_with_bytes = refl

-- before the first line no byte waits and no line is there, and the input is not over
pub no_byte_waits : nothing_read.from ∷ nothing_read.to ∷ nothing_read.have ∷ [] ≡ 0 ∷ 0 ∷ 0 ∷ []
no_byte_waits = refl

pub no_line_yet : nothing_read.whole ≡ false
no_line_yet = refl

pub not_over_yet : nothing_read.over ≡ false
not_over_yet = refl

-- between two lines only the bytes that wait are kept
pub bytes_wait_between_lines : between_lines (record { from = 3; to = 5 }) ≡ record { from = 3; to = 5; have = 0; whole = false; over = false }
bytes_wait_between_lines = refl
