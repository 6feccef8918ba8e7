-- What sealing and opening by RFC 8452 answer and leave in the output (document 01, "Answers" and "Sealing"). Every argument is a byte
-- string; room is the output's length. Assumes nothing.
use Rattle.std.specs.Prelude.{ℕ, ◌≡◌, List, length}
use Rattle.sealing.specs.Calls as calls
use Rattle.rfc8452.specs.Siv.{sealed, opened, authentic}

-- what the calls answer
abbrev pub seal_answer : (key nonce ad text : List ℕ) (room : ℕ) → ℕ
seal_answer key nonce ad text room = calls.seal_answer (length key) (length nonce) (length ad) (length text) room

abbrev pub open_answer : (key nonce ad s : List ℕ) (room : ℕ) → ℕ
open_answer key nonce ad s room = calls.open_answer (length key) (length nonce) (length ad) (length s) room (authentic key nonce ad s)

-- and what they leave in the output: a refusal changes nothing, bytes past the written part keep their values
abbrev pub seal_out : (key nonce ad text out : List ℕ) → List ℕ
seal_out key nonce ad text out = calls.written (seal_answer key nonce ad text (length out)) (sealed key nonce ad text) out

abbrev pub open_out : (key nonce ad s out : List ℕ) → List ℕ
open_out key nonce ad s out = calls.written (open_answer key nonce ad s (length out)) (opened key nonce s) out

-- the promises: the answer r, and the output after the call
pub record Seals (key nonce ad text out : List ℕ) (r : ℕ) (after : List ℕ) : Type 0 where
  pub answer : r ≡ seal_answer key nonce ad text (length out)
  pub memory : after ≡ seal_out key nonce ad text out

pub record Opens (key nonce ad s out : List ℕ) (r : ℕ) (after : List ℕ) : Type 0 where
  pub answer : r ≡ open_answer key nonce ad s (length out)
  pub memory : after ≡ open_out key nonce ad s out
