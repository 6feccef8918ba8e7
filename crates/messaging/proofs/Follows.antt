-- "Reading takes the first frame, says how many bytes it took and ignores what follows": of any whole frame, whoever made it, and whatever its
-- reading answers. Assumes nothing.
use Prim.Native.Nat.{ℕ, ◌+◌, ◌*◌, ◌≤◌}
use mathlib.Core.Path.{◌≡◌, sym, ap, ap₂, ◌∙◌}
use mathlib.Core.List.{List, ◌++◌}
use native.Mathlib.Omega.{arith}
use lib.ListN.{length, take, drop, length-drop, get_or-append, take-append-drop}
use lib.Seq.{take-append-le, drop-append-le}
use Rattle.answer.specs.First.{◌then◌}
use Rattle.rfc8452.specs.Siv.{opened}
use Rattle.sealing.specs.Calls.{written}
use Rattle.sealing.specs.Siv.{open_answer}
use Rattle.framing.specs.Front.{Whole, kind_of, sealed_len, stop_of, front_of}
use Rattle.framing.proofs.Whole.{is_whole, whole_bounds, no_reason, front_before, front_alone}
use Rattle.messaging.specs.Parts.{ad_in, nonce_in, sealed_in}
use Rattle.messaging.specs.Message.{content_answer, message_of}
use Rattle.messaging.specs.Read.{or_refused, read_answer, read_of, read_out}

module _ (s rest : List ℕ) (kind taken : ℕ) (w : front_of s ≡ Whole kind taken) where
  long : (32 ≤ length s) × (16 + sealed_len s ≤ length s)
  long =
      let f = is_whole s kind taken w in
      let b = whole_bounds s kind taken f in
      let i = f.inside in
      let t = f.taken_is in
      (omega arith, omega arith)

  stops : stop_of (s ++ rest) ≡ stop_of s
  stops = no_reason (s ++ rest) kind taken (front_before s rest kind taken w) ∙ sym (no_reason s kind taken w)

  kinds : kind_of (s ++ rest) ≡ kind_of s
  kinds = get_or-append s rest 0 1 (omega (arith, long.0))

  lens : sealed_len (s ++ rest) ≡ sealed_len s
  lens = ap₂ (λ a b. a + b * 256) (get_or-append s rest 0 2 (omega (arith, long.0))) (get_or-append s rest 0 3 (omega (arith, long.0)))

  ads : ad_in (s ++ rest) ≡ ad_in s
  ads = take-append-le 4 s rest (omega (arith, long.0))

  nonces : nonce_in (s ++ rest) ≡ nonce_in s
  nonces = ap (take 12) (drop-append-le 4 s rest (omega (arith, long.0))) ∙ take-append-le 12 (drop 4 s) rest (rw length-drop (omega (arith, long.0)))

  sealeds : sealed_in (s ++ rest) ≡ sealed_in s
  sealeds = ap₂ take lens (drop-append-le 16 s rest (omega (arith, long.0))) ∙ take-append-le (sealed_len s) (drop 16 s) rest (rw length-drop (omega (arith, long.1)))

  -- the same answer, the same message with the same values, the same output
  pub answer_before : (key : List ℕ) (room : ℕ) → read_answer key (s ++ rest) room ≡ read_answer key s room
  unfolding read_answer
  answer_before key room = λ i. stops i then open_answer key (nonces i) (ads i) (sealeds i) room then content_answer (kinds i) (opened key (nonces i) (sealeds i))

  pub read_before : (key : List ℕ) (room : ℕ) → read_of key (s ++ rest) room ≡ read_of key s room
  unfolding read_of
  read_before key room = λ i. or_refused (answer_before key room i) (message_of (kinds i) (opened key (nonces i) (sealeds i)) (16 + lens i))

  pub out_before : (key out : List ℕ) → read_out key (s ++ rest) out ≡ read_out key s out
  unfolding read_out
  out_before key out = λ i. written (answer_before key (length out) i) (opened key (nonces i) (sealeds i)) out

-- so that only the bytes that the frame takes are read
pub read_alone : (s : List ℕ) (kind taken : ℕ) → front_of s ≡ Whole kind taken → (key out : List ℕ)
    → (read_of key s (length out) ≡ read_of key (take taken s) (length out)) × (read_out key s out ≡ read_out key (take taken s) out)
read_alone s kind taken w key out =
    let alone = front_alone s kind taken w in
    let whole = sym (take-append-drop taken s) in (
      ap (λ x. read_of key x (length out)) whole ∙ read_before (take taken s) (drop taken s) kind taken alone key (length out),
      ap (λ x. read_out key x out) whole ∙ out_before (take taken s) (drop taken s) kind taken alone key out,
    )
