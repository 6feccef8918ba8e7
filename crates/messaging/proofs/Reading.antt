-- Reading, by what stands at the front: the reason why no frame does, or the parts of the frame. Assumes nothing.
use Prim.Native.Nat.{ℕ, ◌+◌, ◌-◌, ◌≤◌}
use mathlib.Core.Path.{◌≡◌, ap, ◌∙◌}
use mathlib.Core.Bool.{true}
use mathlib.Core.List.{List}
use native.Mathlib.Omega.{arith}
use borrow.Author.Tests.{ne_eqb}
use lib.ListN.{length, drop, length-drop}
use lib.Seq.{length-take-le}
use Rattle.answer.proofs.First.{then_refused}
use Rattle.sealing.specs.Calls.{written}
use Rattle.framing.specs.Kinds.{is_allowed, max_frame_plaintext}
use Rattle.framing.specs.Front.{Whole, Stop, kind_of, sealed_len, taken_of, stop_of, front_of}
use Rattle.framing.proofs.Fronts.{reason}
use Rattle.framing.proofs.Whole.{IsWhole, is_whole, whole_bounds}
use Rattle.messaging.specs.Reading.{Refused}
use Rattle.messaging.specs.Parts.{ad_in, nonce_in, sealed_in, opened_in}
use Rattle.messaging.specs.Message.{message_of}
use Rattle.messaging.specs.Read.{or_refused, read_answer, read_of, read_out}
use Rattle.messaging.proofs.Sealing.{opened_length}

-- where no frame stands the reason answers, with any room, and nothing is written
module _ (key s : List ℕ) (r : ℕ) (e : front_of s ≡ Stop r) where
  pub stop_answer : (room : ℕ) → read_answer key s room ≡ r
  unfolding read_answer
  stop_answer room = let why = reason s r e in then_refused (stop_of s) _ (λ z. omega arith) ∙ why.0

  pub stop_read : (room : ℕ) → read_of key s room ≡ Refused r
  unfolding read_of
  stop_read room =
      let there = reason s r e in
      ap (λ a. or_refused a (message_of (kind_of s) (opened_in key s) (taken_of s))) (stop_answer room) ∙ rw (ne_eqb r 0 (λ z. omega arith))

  pub stop_out : (out : List ℕ) → read_out key s out ≡ out
  unfolding read_out
  stop_out out =
      let there = reason s r e in
      ap (λ a. written a (opened_in key s) out) (stop_answer (length out)) ∙ rw (ne_eqb r 0 (λ z. omega arith))

-- a frame of this kind that takes so many bytes
module _ (key s : List ℕ) (kind taken : ℕ) (w : front_of s ≡ Whole kind taken) where
  pub whole : IsWhole s kind taken
  whole = is_whole s kind taken w

  pub least : (32 ≤ taken) × (taken - 32 ≤ max_frame_plaintext)
  least = let b = whole_bounds s kind taken whole in (b.0, omega arith)

  pub within : taken ≤ length s
  within = whole.inside

  pub nonce_length_lem : length (nonce_in s) ≡ 12
  nonce_length_lem = let b = least in let i = within in length-take-le 12 (drop 4 s) (rw length-drop (omega arith))

  pub ad_length : length (ad_in s) ≡ 4
  ad_length = let b = least in let i = within in length-take-le 4 s (omega arith)

  pub sealed_length : length (sealed_in s) ≡ taken - 32 + 16
  sealed_length =
      let b = least in
      let i = within in
      let t = whole.taken_is in
      length-take-le (sealed_len s) (drop 16 s) (rw length-drop (omega arith)) ∙ omega arith

  pub text_length : length (opened_in key s) ≡ taken - 32
  text_length = opened_length key (nonce_in s) (ad_in s) (sealed_in s) ∙ omega (arith, sealed_length)

  pub may_stand : is_allowed kind (length (opened_in key s) + 16) ≡ true
  may_stand =
      let b = least in
      let t = whole.taken_is in
      let e : length (opened_in key s) + 16 ≡ sealed_len s = omega (arith, text_length) in
      ap (is_allowed kind) e ∙ whole.allowed
