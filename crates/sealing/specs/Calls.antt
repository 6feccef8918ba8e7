-- What sealing and opening answer, and what they leave in the output, in any mode (document 01, "Answers"). Lengths are in bytes; room is the
-- output's length. Assumes nothing.
use Rattle.std.specs.Prelude.{ℕ, ◌+◌, ◌-◌, Bool, not, cond, ◌&&◌, List, [], ◌∷◌, eqb, ltb}
use Rattle.octets.specs.Places.{over}
use Rattle.answer.specs.Answers.{done, key_length, nonce_length, ad_too_long, text_too_long, sealed_too_short, no_room, tag_differs, log_too_long}
use Rattle.sealing.specs.Limits.{max_ad, max_plaintext, max_sealed, max_log}
use Rattle.answer.specs.First.{Refusal, ◌⇒◌, first}

-- a sealing key has 16 or 32 bytes, a nonce 12
abbrev pub is_no_key : ℕ → Bool
is_no_key k = not (eqb k 16) && not (eqb k 32)

abbrev pub is_no_nonce : ℕ → Bool
is_no_nonce n = not (eqb n 12)

-- what both ask first: 1, 2, 4
abbrev pub common_refusals : (key nonce ad : ℕ) → List Refusal
common_refusals key nonce ad = is_no_key key ⇒ key_length ∷ is_no_nonce nonce ⇒ nonce_length ∷ ltb max_ad ad ⇒ ad_too_long ∷ []

-- "Seal: 1, 2, 4, 5, 7"; it needs 16 bytes more than the text has
abbrev pub seal_answer : (key nonce ad text room : ℕ) → ℕ
seal_answer key nonce ad text room =
    first (is_no_key key ⇒ key_length ∷ is_no_nonce nonce ⇒ nonce_length ∷ ltb max_ad ad ⇒ ad_too_long ∷ ltb max_plaintext text ⇒ text_too_long ∷ ltb room (text + 16) ⇒ no_room ∷ [])

-- "Open: 1, 2, 4, 6, 5, 7, 8"; it needs 16 bytes fewer than the sealed part has
abbrev pub open_answer : (key nonce ad sealed room : ℕ) (authentic : Bool) → ℕ
open_answer key nonce ad sealed room authentic =
    first (is_no_key key ⇒ key_length ∷ is_no_nonce nonce ⇒ nonce_length ∷ ltb max_ad ad ⇒ ad_too_long ∷ ltb sealed 16 ⇒ sealed_too_short ∷ ltb max_sealed sealed ⇒ text_too_long ∷ ltb room (sealed - 16) ⇒ no_room ∷ not authentic ⇒ tag_differs ∷ [])

-- what a call leaves in out: where it answers 0 the new bytes and what stood behind them, else all as it was
abbrev pub written : (answer : ℕ) (new out : List ℕ) → List ℕ
written answer new out = cond (eqb answer done) (over new out) out

-- "Programs: 15, then the calls they make": the answer to a log of so many bytes, before any of it is read
abbrev pub log_answer : (log : ℕ) → ℕ
log_answer log = first (ltb max_log log ⇒ log_too_long ∷ [])
