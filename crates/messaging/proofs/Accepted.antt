-- Every accepted frame is one that writing makes from what reading returned: its kind, its plaintext as it stands in the
-- output, and, of a position, the bytes of the four fields. Assumes nothing.
use Prim.Native.Nat.{ℕ, ◌-◌, ◌≤◌}
use mathlib.Core.Path.{◌≡◌, sym, ap, ◌∙◌, subst}
use mathlib.Core.List.{List, ◌++◌}
use native.Mathlib.Omega.{arith}
use borrow.Author.Tests.{eq-eqb}
use lib.ListN.{length, take, drop}
use lib.Seq.{take_at}
use Rattle.octets.proofs.Numbers.{Bytes, bytes_take}
use Rattle.framing.specs.declared.position.Position.{Position}
use Rattle.framing.specs.Position.{position_bytes}
use Rattle.framing.specs.Kinds.{is_allowed}
use Rattle.framing.specs.Front.{kind_of, taken_of}
use Rattle.framing.proofs.RoundTrip.{bytes_position}
use Rattle.messaging.specs.Reading.{Reading}
use Rattle.messaging.specs.Reading as message
use Rattle.messaging.specs.Parts.{frame_of, nonce_in, opened_in}
use Rattle.messaging.specs.Message.{message_of, values_of}
use Rattle.messaging.specs.Write.{write_answer}
use Rattle.messaging.specs.Read.{read_answer, read_of, read_out, Reads}
use Rattle.framing.proofs.Rows.{sixteen_bytes}
use Rattle.messaging.proofs.Values.{not_refused, kind_value, taken_value, spelled}
use Rattle.messaging.proofs.Trips.{whole, len_is, frame_again, write_again}

-- a reading that was not refused
module _ (key s out : List ℕ) (r : Reading) (after : List ℕ) (bytes : Bytes s) (reads : Reads key s out r after) (ok : (values_of r).answer ≡ 0) where
  abbrev text : List ℕ
  text = opened_in key s

  yes : (read_answer key s (length out) ≡ 0) × (r ≡ message_of (kind_of s) text (taken_of s))
  unfolding read_of
  yes = not_refused (read_answer key s (length out)) (message_of (kind_of s) text (taken_of s)) r reads.answer ok

  kind_is : (values_of r).kind ≡ kind_of s
  kind_is = ap (λ x. (values_of x).kind) yes.1 ∙ kind_value (kind_of s) text (taken_of s) (whole key s (length out) bytes yes.0).known

  taken_is : (values_of r).taken ≡ taken_of s
  taken_is = ap (λ x. (values_of x).taken) yes.1 ∙ taken_value (kind_of s) text (taken_of s)

  -- the plaintext is what stands at the front of the output
  text_is : take ((values_of r).taken - 32) after ≡ text
  unfolding read_out
  text_is =
      let n : length text ≡ (values_of r).taken - 32 = omega (arith, len_is key s (length out) bytes yes.0, taken_is) in
      let e : after ≡ text ++ drop (length text) out = reads.memory ∙ rw (eq-eqb (read_answer key s (length out)) 0 yes.0) in
      ap (take ((values_of r).taken - 32)) e ∙ take_at text (drop (length text) out) ((values_of r).taken - 32) n

  -- the frame that was read is the one that is written of what reading returned, byte by byte
  pub frame_of_it : frame_of (values_of r).kind key (nonce_in s) (take ((values_of r).taken - 32) after) ≡ take (values_of r).taken s
  frame_of_it = (λ i. frame_of (kind_is i) key (nonce_in s) (text_is i)) ∙ frame_again key s (length out) bytes yes.0 ∙ ap (λ n. take n s) (sym taken_is)

  -- and writing it is not refused, where there is room
  pub writes_it : (place : ℕ) → (values_of r).taken ≤ place → write_answer (values_of r).kind key (nonce_in s) (take ((values_of r).taken - 32) after) place ≡ 0
  writes_it place h = (λ i. write_answer (kind_is i) key (nonce_in s) (text_is i) place) ∙ write_again key s (length out) bytes yes.0 place (omega (arith, taken_is))

  -- a position's plaintext is the bytes of the fields that were returned
  pub position_of_it : Bytes after → (p : Position) (n : ℕ) → r ≡ message.Position p n → position_bytes p ≡ take ((values_of r).taken - 32) after
  position_of_it b p n e =
      let w = whole key s (length out) bytes yes.0 in
      let f = spelled (kind_of s) text (taken_of s) p n w.known (sym yes.1 ∙ e) in
      let l = sixteen_bytes (kind_of s) (length text) f.0 (ap (is_allowed (kind_of s)) (len_is key s (length out) bytes yes.0) ∙ w.allowed) in
      ap position_bytes (sym f.1) ∙ bytes_position text (subst Bytes text_is (bytes_take ((values_of r).taken - 32) after b)) l ∙ sym text_is
