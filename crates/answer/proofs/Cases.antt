-- Each answer's number, as document 01's table has it, and the first that applies on short lists, computed. Assumes nothing.
use mathlib.Core.Path.{◌≡◌, refl}
use mathlib.Core.Bool.{true, false}
use mathlib.Core.List.{[], ◌∷◌}
use Rattle.answer.specs.Answers.{done, key_length, nonce_length, not_whole_blocks, ad_too_long, text_too_long, sealed_too_short, no_room, tag_differs, not_a_frame, unknown_kind, length_for_kind, cut_short, out_of_range, bad_record, log_too_long}
use Rattle.answer.specs.First.{◌⇒◌, first, ◌then◌}

-- "0 means done", and the table's rows 1 to 15
pub numbers : (done ≡ 0) × (key_length ≡ 1) × (nonce_length ≡ 2) × (not_whole_blocks ≡ 3) × (ad_too_long ≡ 4) × (text_too_long ≡ 5) × (sealed_too_short ≡ 6) × (no_room ≡ 7)
    × (tag_differs ≡ 8) × (not_a_frame ≡ 9) × (unknown_kind ≡ 10) × (length_for_kind ≡ 11) × (cut_short ≡ 12) × (out_of_range ≡ 13) × (bad_record ≡ 14) × (log_too_long ≡ 15)
numbers = (refl, refl, refl, refl, refl, refl, refl, refl, refl, refl, refl, refl, refl, refl, refl, refl)

-- "the first that applies is the answer, and no other": 2, though 1 stands before it and 4 behind it
pub first_applies : first (false ⇒ 1 ∷ true ⇒ 2 ∷ true ⇒ 4 ∷ []) ≡ 2
first_applies = refl

pub none_applies : (first [] ≡ 0) × (first (false ⇒ 1 ∷ false ⇒ 2 ∷ []) ≡ 0)
none_applies = (refl, refl)

-- one call's order after another's: the first that refuses
pub one_then_another : (0 then 0 ≡ 0) × (0 then 8 ≡ 8) × (12 then 0 ≡ 12) × (12 then 8 ≡ 12)
one_then_another = (refl, refl, refl, refl)
