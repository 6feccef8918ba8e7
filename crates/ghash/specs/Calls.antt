-- GHASH by way of POLYVAL (RFC 8452, appendix A; document 01, "Field"): the byte reverse of POLYVAL under mulx(reverse(H)) of the reversed blocks. Assumes nothing.
use Rattle.std.specs.Prelude.{ℕ, ◌%◌, cond, not, List, [], ◌∷◌, reverse, map, eqb, length, replicate, Result, Ok, Err}
use Rattle.answer.specs.Answers.{done, key_length, not_whole_blocks}
use Rattle.answer.specs.First.{first, ◌⇒◌}
use Rattle.answer.specs.Reasons.{number_of}
use Rattle.answer.specs.declared.Reason.{Reason}
use Rattle.octets.specs.Numbers.{bytes_of}
use Rattle.field.specs.Element.{value, element}
use Rattle.rfc8452.specs.Machine.{run, polyval}
use Rattle.rfc8452.specs.Blocks.{blocks}
use Rattle.rfc8452.specs.AppendixA.{reversed, key_for}
use Rattle.sp800_38d.specs.Ghash.{ghash_of, bit_string, bit_blocks}
use Rattle.ghash.specs.declared.parts.Ghash.{Ghash}

-- the answer of start, and the record that it made: zeros where the answer is not 0
pub record Started : Type 0 where
  pub answer : ℕ
  pub ghash : Ghash

-- the answer of a whole hash, and its 16 bytes: zeros where the answer is not 0
pub record Hashed : Type 0 where
  pub answer : ℕ
  pub tag : List ℕ

-- what a call of code returned, told so
abbrev pub start_told : Result Ghash Reason → Started
start_told (Ok ghash) = record { answer = done; ghash = ghash }
start_told (Err reason) = record { answer = number_of reason; ghash = record { key = element 0; acc = element 0 } }

abbrev pub hashed_told : Result (List ℕ) Reason → Hashed
hashed_told (Ok tag) = record { answer = done; tag = tag }
hashed_told (Err reason) = record { answer = number_of reason; tag = replicate 16 0 }

abbrev pub ghash_start_answer : (key : List ℕ) → ℕ
ghash_start_answer key = first (not (eqb (length key) 16) ⇒ key_length ∷ [])

abbrev pub ghash_start_of : (key : List ℕ) → Started
ghash_start_of key =
    cond (eqb (ghash_start_answer key) done) (record { answer = done; ghash = record { key = element (key_for key); acc = element 0 } })
    (record { answer = ghash_start_answer key; ghash = record { key = element 0; acc = element 0 } })

-- a padded feed: all blocks of s
abbrev pub fed_of : Ghash → List ℕ → Ghash
fed_of g s = record { key = g.key; acc = element (run (value g.key) (value g.acc) (map reversed (blocks s))) }

abbrev pub ghash_tag_of : Ghash → List ℕ
ghash_tag_of g = reverse (bytes_of 16 (value g.acc))

-- the whole call: 1, then 3
abbrev pub ghash_answer : (key s : List ℕ) → ℕ
ghash_answer key s = first (not (eqb (length key) 16) ⇒ key_length ∷ not (eqb (length s % 16) 0) ⇒ not_whole_blocks ∷ [])

abbrev pub hashed_of : (key s : List ℕ) → Hashed
hashed_of key s =
    cond (eqb (ghash_answer key s) done) (record { answer = done; tag = reverse (bytes_of 16 (polyval (key_for key) (map reversed (blocks s)))) })
    (record { answer = ghash_answer key s; tag = replicate 16 0 })

-- the same call in SP 800-38D's own terms: Equal's `call_is` says that they are one
abbrev pub nist_of : (key s : List ℕ) → Hashed
nist_of key s =
    cond (eqb (ghash_answer key s) done) (record { answer = done; tag = reverse (bytes_of 16 (ghash_of (bit_string key) (bit_blocks s))) })
    (record { answer = ghash_answer key s; tag = replicate 16 0 })
