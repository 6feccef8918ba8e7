-- The orders of answers: "Frame reading: 9, 10, 11, 12, then opening, then 13. Frame writing: 10, 11, 13, then sealing." By what is asked of a frame
-- that stands, and by cases in which several apply. Assumes nothing.
use Prim.Native.Nat.{ℕ, ◌+◌, ◌-◌, ◌≤◌}
use mathlib.Core.Path.{◌≡◌, refl, sym, ap, ◌∙◌}
use mathlib.Core.Bool.{Bool, false, not}
use mathlib.Core.List.{List, [], ◌∷◌}
use mathlib.Core.Logic.{◌⊎◌, ⊎_elim}
use native.Mathlib.Omega.{arith}
use borrow.Author.Tests.{le-ltb}
use lib.Dec.{ltb}
use lib.ListN.{length, replicate}
use Rattle.octets.specs.Numbers.{number, bytes_of}
use Rattle.answer.specs.First.{◌⇒◌, first, ◌then◌}
use Rattle.answer.proofs.First.{then_passed, then_refused}
use Rattle.rfc8452.specs.Siv.{authentic}
use Rattle.sealing.specs.Limits.{max_plaintext, max_sealed}
use Rattle.sealing.specs.Calls as calls
use Rattle.sealing.specs.Calls.{is_no_key, is_no_nonce}
use Rattle.sealing.specs.Siv.{open_answer}
use Rattle.sealing.proofs.Refusals.{short_key, long_key_lem}
use Rattle.framing.specs.Position.{position_of}
use Rattle.framing.specs.Kinds as kinds
use Rattle.framing.specs.Front.{Whole, checks, stop_of, front_of}
use Rattle.framing.proofs.Whole.{no_reason}
use Rattle.messaging.specs.Reading.{Refused}
use Rattle.messaging.specs.Parts.{ad_in, nonce_in, sealed_in, opened_in}
use Rattle.messaging.specs.Message.{content_answer}
use Rattle.messaging.specs.Write.{kind_answer, plain_answer, write_answer, written_of}
use Rattle.messaging.specs.Read.{read_answer, read_of, read_out}
use Rattle.messaging.proofs.Writing.{longest_seals, passed_short}
use Rattle.messaging.proofs.Reading.{whole, least, nonce_length_lem, ad_length, sealed_length}
use Rattle.messaging.proofs.Refused.{refused_message, refused_reading}

-- writing, where kind, length and content pass: of sealing's answers 4 and 5 never apply, since the associated data has 4 bytes and no text is over
-- the table's longest
pub write_asks : (kind : ℕ) (key nonce text : List ℕ) (room : ℕ) → plain_answer kind text ≡ 0
    → write_answer kind key nonce text room ≡ first (is_no_key (length key) ⇒ 1 ∷ is_no_nonce (length nonce) ⇒ 2 ∷ ltb (room - 16) (length text + 16) ⇒ 7 ∷ [])
unfolding write_answer bytes_of
write_asks kind key nonce text room e =
    let s = passed_short kind text e in
    then_passed (plain_answer kind text) _ e
    ∙ (λ i. first (is_no_key (length key) ⇒ 1 ∷ is_no_nonce (length nonce) ⇒ 2 ∷ le-ltb max_plaintext (length text) (omega (arith, longest_seals)) i ⇒ 5 ∷ ltb (room - 16) (length text + 16) ⇒ 7 ∷ []))

-- and what does not pass is the answer, whatever the key, the nonce and the room
pub plain_first : (kind : ℕ) (key nonce text : List ℕ) (room : ℕ) → (plain_answer kind text ≡ 0 → ⊥) → write_answer kind key nonce text room ≡ plain_answer kind text
unfolding write_answer
plain_first kind key nonce text room h = then_refused (plain_answer kind text) _ h

opening : (k n room : ℕ) (a : Bool) → n ≤ max_plaintext → calls.open_answer k 12 4 (n + 16) room a ≡ first (is_no_key k ⇒ 1 ∷ ltb room n ⇒ 7 ∷ not a ⇒ 8 ∷ [])
opening k n room a h =
    let same : n + 16 - 16 ≡ n = omega arith in
    (λ i. first (is_no_key k ⇒ 1 ∷ le-ltb (n + 16) 16 (omega arith) i ⇒ 6 ∷ le-ltb max_sealed (n + 16) (omega arith) i ⇒ 5 ∷ ltb room (same i) ⇒ 7 ∷ not a ⇒ 8 ∷ []))

-- reading, where a whole frame stands: 1, 7, 8, then 13. 2, 4, 5 and 6 never apply, since a frame has a nonce of 12 bytes and a sealed part that
-- its kind allows
module _ (key s : List ℕ) (kind taken : ℕ) (w : front_of s ≡ Whole kind taken) where
  abbrev agrees : Bool
  agrees = authentic key (nonce_in s) (ad_in s) (sealed_in s)

  pub read_asks : (room : ℕ) → read_answer key s room ≡ first (is_no_key (length key) ⇒ 1 ∷ ltb room (taken - 32) ⇒ 7 ∷ not agrees ⇒ 8 ∷ []) then content_answer kind (opened_in key s)
  unfolding read_answer
  read_asks room =
      let l = least key s kind taken w in
      then_passed (stop_of s) _ (no_reason s kind taken w)
      ∙ (λ i. calls.open_answer (length key) (nonce_length_lem key s kind taken w i) (ad_length key s kind taken w i) (sealed_length key s kind taken w i) room agrees
      then content_answer ((whole key s kind taken w).kind_is i) (opened_in key s))
      ∙ ap (λ a. a then content_answer kind (opened_in key s)) (opening (length key) (taken - 32) room agrees (omega (arith, longest_seals)))

  -- so a tag that differs is 8, whatever the plaintext would say, and nothing is written
  pub differing_tag_reads_8 : (out : List ℕ) → (length key ≡ 16) ⊎ (length key ≡ 32) → taken - 32 ≤ length out → agrees ≡ false
      → (read_of key s (length out) ≡ Refused 8) × (read_out key s out ≡ out)
  differing_tag_reads_8 out k r d =
      let eight : read_answer key s (length out) ≡ 8 =
      read_asks (length out)
      ∙ (λ i. first (⊎_elim (short_key (length key)) (long_key_lem (length key)) k i ⇒ 1 ∷ le-ltb (length out) (taken - 32) r i ⇒ 7 ∷ not (d i) ⇒ 8 ∷ []) then content_answer kind (opened_in key s)) in
      let no : read_answer key s (length out) ≡ 0 → ⊥ = λ e. omega (arith, eight, e) in
      (refused_message key s (length out) no ∙ ap Refused eight, refused_reading key s out no)

-- tag first, content second: what opening refuses is the answer, whatever the plaintext would say
pub tag_first : (key s : List ℕ) (room r : ℕ) → stop_of s ≡ 0 → open_answer key (nonce_in s) (ad_in s) (sealed_in s) room ≡ r → (r ≡ 0 → ⊥) → read_answer key s room ≡ r
unfolding read_answer
tag_first key s room r front e h = then_passed (stop_of s) _ front ∙ then_refused (open_answer key (nonce_in s) (ad_in s) (sealed_in s) room) _ (λ z. h (sym e ∙ z)) ∙ e

-- writing, by cases: a kind that is unknown, whatever else; a length before a range; a range before a key
pub kind_4 : (key nonce text : List ℕ) (room : ℕ) → write_answer 4 key nonce text room ≡ 10
unfolding write_answer kinds.is_known kinds.row_of kinds.table
kind_4 key nonce text room = refl

pub write_order : (key nonce : List ℕ) (room : ℕ) → (write_answer 1 key nonce (replicate 15 0x7F) room ≡ 11) × (write_answer 1 key nonce (replicate 17 0x7F) room ≡ 11)
    × (write_answer 2 key nonce [] room ≡ 11) × (write_answer 2 key nonce (replicate 161 7) room ≡ 11) × (write_answer 3 key nonce (7 ∷ []) room ≡ 11)
    × (write_answer 1 key nonce (replicate 16 0x7F) room ≡ 13)
unfolding write_answer position_of number kinds.is_known kinds.is_allowed kinds.row_of kinds.table
write_order key nonce room = (refl, refl, refl, refl, refl, refl)

-- the same of what is asked of the plaintext, part by part
pub plain_order : (kind_answer 4 [] ≡ 10) × (kind_answer 1 (replicate 17 0x7F) ≡ 11) × (kind_answer 1 (replicate 16 0x7F) ≡ 0) × (plain_answer 4 (replicate 16 0x7F) ≡ 10)
    × (plain_answer 1 (replicate 17 0x7F) ≡ 11) × (plain_answer 1 (replicate 16 0x7F) ≡ 13) × (plain_answer 2 (replicate 16 0x7F) ≡ 0)
unfolding position_of number kinds.is_known kinds.is_allowed kinds.row_of kinds.table
plain_order = (refl, refl, refl, refl, refl, refl, refl)

-- then sealing: 1 before 2 before 7. "Writing a frame needs n+32, and less is 7 at sealing's place"
pub sealing_order : (write_answer 3 [] [] [] 0 ≡ 1) × (write_answer 3 (replicate 16 0) [] [] 0 ≡ 2) × (write_answer 3 (replicate 16 0) (replicate 12 0) [] 0 ≡ 7)
    × (write_answer 3 (replicate 16 0) (replicate 12 0) [] 31 ≡ 7) × (write_answer 3 (replicate 32 0) (replicate 12 0) [] 32 ≡ 0)
    × (write_answer 2 (replicate 32 0) (replicate 12 0) (replicate 160 7) 191 ≡ 7) × (write_answer 2 (replicate 32 0) (replicate 12 0) (replicate 160 7) 192 ≡ 0)
unfolding write_answer bytes_of kinds.is_known kinds.is_allowed kinds.row_of kinds.table
sealing_order = (refl, refl, refl, refl, refl, refl, refl)

-- the bytes written: n + 32, and none where it refuses
pub written_lengths : (written_of 3 (replicate 32 0) (replicate 12 0) [] 100 ≡ record { answer = 0; len = 32 }) × (written_of 2 (replicate 32 0) (replicate 12 0) (5 ∷ 6 ∷ 7 ∷ []) 100 ≡ record { answer = 0; len = 35 })
    × (written_of 3 (replicate 32 0) (replicate 12 0) [] 31 ≡ record { answer = 7; len = 0 })
unfolding written_of write_answer bytes_of kinds.is_known kinds.is_allowed kinds.row_of kinds.table
written_lengths = (refl, refl, refl)

-- reading, by cases: a frame is looked at before the key and the room are
pub read_order : (read_answer [] [] 0 ≡ 12) × (read_answer [] (0x4C ∷ 4 ∷ []) 0 ≡ 9) × (read_answer [] (0x4B ∷ 4 ∷ []) 0 ≡ 10) × (read_answer [] (0x4B ∷ 1 ∷ 33 ∷ 0 ∷ []) 0 ≡ 11)
    × (read_answer [] (0x4B ∷ 1 ∷ 32 ∷ 0 ∷ []) 0 ≡ 12)
unfolding read_answer checks kinds.is_known kinds.is_allowed kinds.row_of kinds.table
read_order = (refl, refl, refl, refl, refl)

-- of one that stands the key, then the room: "reading one needs its sealed length less 16"
pub opening_order : (read_answer [] (0x4B ∷ 1 ∷ 32 ∷ 0 ∷ replicate 44 7) 0 ≡ 1) × (read_answer (replicate 16 0) (0x4B ∷ 1 ∷ 32 ∷ 0 ∷ replicate 44 7) 15 ≡ 7)
unfolding read_answer checks kinds.is_known kinds.is_allowed kinds.row_of kinds.table
opening_order = (refl, refl)
