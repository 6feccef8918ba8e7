-- What each call on a hash record answers (document 01, "Feeding and joining"; the order of the answers is its line "Hash: 1, 14, 3"). Assumes nothing.
use Rattle.std.specs.Prelude.{ℕ, ◌*◌, ◌/◌, ◌%◌, not, List, [], ◌∷◌, ◌++◌, eqb, ltb, length, take, drop}
use Rattle.answer.specs.Answers.{done, key_length, not_whole_blocks, bad_record}
use Rattle.answer.specs.First.{first, ◌⇒◌}
use Rattle.octets.specs.Numbers.{number, bytes_of}
use Rattle.field.specs.declared.rf.Counted.{Counted}
use Rattle.field.specs.Element.{value}
use Rattle.field.specs.Rf.{counted}
use Rattle.feeding.specs.declared.Route.{Route}
use Rattle.rfc8452.specs.Blocks.{blocks}
use Rattle.feeding.specs.Key.{key_of, expansion_cost}
use Rattle.feeding.specs.Formulas.{in_groups, alone}
use Rattle.feeding.specs.Routes.{absorb_on}
use Rattle.feeding.specs.declared.Hash.{Hash}
use Rattle.feeding.specs.Answers.{FedAnswer, FinishAnswer}
use Rattle.feeding.specs.Record.{pending_of, held_by, holding, fed_or, finished_or}

-- start: the key that belongs to H, and nothing absorbed. A zero key is no reason to refuse.
abbrev pub start_answer : (key : List ℕ) → ℕ
start_answer key = first (not (eqb (length key) 16) ⇒ key_length ∷ [])

abbrev pub start_of : (key : List ℕ) → FedAnswer
start_of key = fed_or (start_answer key) (holding (key_of (number key)) (counted 0 expansion_cost) [])

-- whole blocks, and padded: all blocks of s, in groups, on a record that has nothing pending
abbrev pub whole_answer : Hash → List ℕ → ℕ
whole_answer h s = first (ltb 0 h.count ⇒ bad_record ∷ not (eqb (length s % 16) 0) ⇒ not_whole_blocks ∷ [])

abbrev pub padded_answer : Hash → ℕ
padded_answer h = first (ltb 0 h.count ⇒ bad_record ∷ [])

abbrev pub absorbed : Route → Hash → List ℕ → FedAnswer
absorbed route h s = holding h.key (absorb_on route in_groups h.key (held_by h) (blocks s)) []

abbrev pub whole_of : Route → Hash → List ℕ → FedAnswer
whole_of route h s = fed_or (whole_answer h s) (absorbed route h s)

abbrev pub padded_of : Route → Hash → List ℕ → FedAnswer
padded_of route h s = fed_or (padded_answer h) (absorbed route h s)

-- a record that claims more than 15 pending bytes
abbrev pub record_answer : Hash → ℕ
record_answer h = first (ltb 15 h.count ⇒ bad_record ∷ [])

-- a piece: the whole blocks of the pending bytes and s together, one by one, and the rest of them pending
abbrev pub whole_part : List ℕ → List ℕ
whole_part d = take (length d / 16 * 16) d

abbrev pub short_part : List ℕ → List ℕ
short_part d = drop (length d / 16 * 16) d

unfoldable pub pieced : Route → Hash → (d : List ℕ) → FedAnswer
pieced route h d = holding h.key (absorb_on route alone h.key (held_by h) (blocks (whole_part d))) (short_part d)

abbrev pub piece_of : Route → Hash → List ℕ → FedAnswer
piece_of route h s = fed_or (record_answer h) (pieced route h (pending_of h ++ s))

-- finish: the pending bytes as a last block, filled with zeros; none where nothing is pending
abbrev pub finishing : Route → Hash → Counted
finishing route h = absorb_on route alone h.key (held_by h) (blocks (pending_of h))

abbrev pub tagged : Counted → FinishAnswer
tagged made = record { answer = done; tag = bytes_of 16 (value made.element); multiplies = made.multiplies }

abbrev pub finish_of : Route → Hash → FinishAnswer
finish_of route h = finished_or (record_answer h) (tagged (finishing route h))

-- reset: the key stays, the rest is cleared
abbrev pub reset_of : Hash → FedAnswer
reset_of h = fed_or (record_answer h) (holding h.key (counted 0 0) [])
