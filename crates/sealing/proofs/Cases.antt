-- Both sides of each length that sealing and opening ask of, and the order of their answers (document 01, "Answers" and "Cases"): lengths
-- alone decide, so each is computed. The limits stand here by number, since they are the limits' own cases. Assumes nothing.
use mathlib.Core.Path.{◌≡◌, refl}
use mathlib.Core.Bool.{true, false}
use Rattle.answer.specs.First.{first}
use Rattle.sealing.specs.Limits.{max_ad, max_plaintext, max_sealed, max_log}
use Rattle.sealing.specs.Calls.{is_no_key, is_no_nonce, common_refusals, seal_answer, open_answer, log_answer}

-- rows 4, 5 and 15 of the table
limits : (max_ad ≡ 1024) × (max_plaintext ≡ 65536) × (max_sealed ≡ 65552) × (max_log ≡ 16777216)
limits = (refl, refl, refl, refl)

-- keys of 16 and 32 bytes, and no other
keys : (seal_answer 0 12 0 0 16 ≡ 1) × (seal_answer 15 12 0 0 16 ≡ 1) × (seal_answer 16 12 0 0 16 ≡ 0) × (seal_answer 17 12 0 0 16 ≡ 1)
    × (seal_answer 24 12 0 0 16 ≡ 1) × (seal_answer 31 12 0 0 16 ≡ 1) × (seal_answer 32 12 0 0 16 ≡ 0) × (seal_answer 33 12 0 0 16 ≡ 1)
keys = (refl, refl, refl, refl, refl, refl, refl, refl)

nonces : (seal_answer 16 11 0 0 16 ≡ 2) × (seal_answer 16 12 0 0 16 ≡ 0) × (seal_answer 16 13 0 0 16 ≡ 2)
nonces = (refl, refl, refl)

-- opening asks the same of both
opening_keys : (open_answer 15 12 0 16 0 true ≡ 1) × (open_answer 16 12 0 16 0 true ≡ 0) × (open_answer 17 12 0 16 0 true ≡ 1) × (open_answer 31 12 0 16 0 true ≡ 1)
    × (open_answer 32 12 0 16 0 true ≡ 0) × (open_answer 33 12 0 16 0 true ≡ 1)
opening_keys = (refl, refl, refl, refl, refl, refl)

opening_nonces : (open_answer 16 11 0 16 0 true ≡ 2) × (open_answer 32 12 0 16 0 true ≡ 0) × (open_answer 16 13 0 16 0 true ≡ 2)
opening_nonces = (refl, refl, refl)

-- what both ask first, by itself
first_asked : (first (common_refusals 24 11 1025) ≡ 1) × (first (common_refusals 32 11 1025) ≡ 2) × (first (common_refusals 16 12 1025) ≡ 4) × (first (common_refusals 16 12 1024) ≡ 0)
first_asked = (refl, refl, refl, refl)

lengths_tested : (is_no_key 16 ≡ false) × (is_no_key 24 ≡ true) × (is_no_key 32 ≡ false) × (is_no_nonce 12 ≡ false) × (is_no_nonce 16 ≡ true)
lengths_tested = (refl, refl, refl, refl, refl)

-- "Associated data 1,024 stands; 1,025 is 4."
associated_data : (seal_answer 16 12 1024 0 16 ≡ 0) × (seal_answer 16 12 1025 0 16 ≡ 4) × (open_answer 16 12 1024 16 0 true ≡ 0) × (open_answer 16 12 1025 16 0 true ≡ 4)
associated_data = (refl, refl, refl, refl)

-- "Plaintext 65,536 seals; 65,537 is 5."
plaintexts : (seal_answer 16 12 0 65536 65552 ≡ 0) × (seal_answer 16 12 0 65537 65553 ≡ 5)
plaintexts = (refl, refl)

-- "Sealed part 15 is 6; 16 is tried, and so is 65,552; 65,553 is 5": where it is tried the tag decides
sealed_parts : (open_answer 16 12 0 15 16 true ≡ 6) × (open_answer 16 12 0 16 0 true ≡ 0) × (open_answer 16 12 0 16 0 false ≡ 8)
    × (open_answer 16 12 0 65552 65536 true ≡ 0) × (open_answer 16 12 0 65552 65536 false ≡ 8) × (open_answer 16 12 0 65553 65537 true ≡ 5)
sealed_parts = (refl, refl, refl, refl, refl, refl)

-- "Seal needs n+16 bytes of output for n of plaintext; open of m needs m-16."
rooms : (seal_answer 16 12 0 100 115 ≡ 7) × (seal_answer 16 12 0 100 116 ≡ 0) × (open_answer 16 12 0 116 99 true ≡ 7) × (open_answer 16 12 0 116 100 true ≡ 0)
rooms = (refl, refl, refl, refl)

-- where several apply, the first in document 01's order: seal 1, 2, 4, 5, 7; open 1, 2, 4, 6, 5, 7, 8
seal_order : (seal_answer 0 0 1025 65537 0 ≡ 1) × (seal_answer 16 0 1025 65537 0 ≡ 2) × (seal_answer 16 12 1025 65537 0 ≡ 4) × (seal_answer 16 12 0 65537 0 ≡ 5) × (seal_answer 16 12 0 0 0 ≡ 7)
seal_order = (refl, refl, refl, refl, refl)

open_order : (open_answer 0 0 1025 0 0 false ≡ 1) × (open_answer 16 0 1025 0 0 false ≡ 2) × (open_answer 16 12 1025 0 0 false ≡ 4) × (open_answer 16 12 0 0 0 false ≡ 6)
    × (open_answer 16 12 0 65553 0 false ≡ 5) × (open_answer 16 12 0 17 0 false ≡ 7) × (open_answer 16 12 0 17 1 false ≡ 8)
open_order = (refl, refl, refl, refl, refl, refl, refl)

-- "A log of 16,777,216 bytes is read; for one of 16,777,217 a program prints 15 before any other line"
logs : (log_answer 0 ≡ 0) × (log_answer 16000001 ≡ 0) × (log_answer 16777216 ≡ 0) × (log_answer 16777217 ≡ 15)
logs = (refl, refl, refl, refl)
