-- Reading as the code goes: by what opening answers, and what is left in the output. Assumes nothing.
use Prim.Native.Nat.{ℕ, ◌+◌, ◌-◌, ◌≤◌}
use mathlib.Core.Path.{◌≡◌, sym, ap, ◌∙◌}
use mathlib.Core.Bool.{Bool, true}
use mathlib.Core.List.{List, ◌++◌, append-nil}
use native.Mathlib.Omega.{arith}
use borrow.Author.Tests.{eq-eqb, ne_eqb}
use lib.ListN.{length, take, drop_of_length-le}
use lib.Seq.{length-take-le}
use Rattle.answer.specs.First.{◌then◌}
use Rattle.answer.proofs.First.{then_refused, then_passed}
use Rattle.sealing.specs.Calls as calls
use Rattle.sealing.specs.Calls.{written}
use Rattle.sealing.proofs.Refusals.{refused_early, open_room}
use Rattle.sealing.proofs.Done.{openable}
use Rattle.rfc8452.specs.Siv.{authentic}
use Rattle.sealing.specs.Siv.{open_answer, Opens}
use Rattle.framing.specs.Kinds.{max_frame_plaintext}
use Rattle.framing.specs.Front.{Whole, Stop, kind_of, taken_of, stop_of, front_of}
use Rattle.framing.proofs.Whole.{no_reason}
use Rattle.messaging.specs.Reading.{Reading, Refused}
use Rattle.messaging.specs.Parts.{ad_in, nonce_in, sealed_in, opened_in}
use Rattle.messaging.specs.Message.{content_answer, message_of}
use Rattle.messaging.specs.Read.{or_refused, read_answer, read_of, read_out, Reads}
use Rattle.messaging.proofs.Reading.{stop_read, stop_out, whole, least, nonce_length_lem, ad_length, sealed_length, text_length}

-- a number that is not 0 refuses, and leaves the output as it was
refuses : (a : ℕ) (m : Reading) → (a ≡ 0 → ⊥) → Refused a ≡ or_refused a m
refuses a m h = sym (rw (ne_eqb a 0 h))

leaves : (a : ℕ) (new out : List ℕ) → (a ≡ 0 → ⊥) → out ≡ written a new out
leaves a new out h = sym (rw (ne_eqb a 0 h))

module _ (key s out : List ℕ) where
  refused : (a : ℕ) → read_answer key s (length out) ≡ a → (a ≡ 0 → ⊥) → Reads key s out (Refused a) out
  unfolding read_of read_out
  refused a e h = record {
    answer = refuses a _ h ∙ ap (λ n. or_refused n (message_of (kind_of s) (opened_in key s) (taken_of s))) (sym e);
    memory = leaves a (opened_in key s) out h ∙ ap (λ n. written n (opened_in key s) out) (sym e);
  }

  -- no frame
  pub stops : (r : ℕ) → front_of s ≡ Stop r → Reads key s out (Refused r) out
  stops r e = record { answer = sym (stop_read key s r e (length out)); memory = sym (stop_out key s r e out) }

  -- a frame of this kind that takes so many bytes
  module _ (kind taken : ℕ) (w : front_of s ≡ Whole kind taken) where
    abbrev opening : ℕ → ℕ
    opening room = open_answer key (nonce_in s) (ad_in s) (sealed_in s) room

    after_front : read_answer key s (length out) ≡ opening (length out) then content_answer (kind_of s) (opened_in key s)
    unfolding read_answer
    after_front = then_passed (stop_of s) _ (no_reason s kind taken w)

    pub refused_opening : (a : ℕ) → a ≡ opening (length out) → (a ≡ 0 → ⊥) → Reads key s out (Refused a) out
    refused_opening a e h = refused a (after_front ∙ then_refused (opening (length out)) _ (λ z. h (e ∙ z)) ∙ sym e) h

    -- what opening refuses by its lengths, and the room where these pass
    by_lengths : (b : Bool) → calls.open_answer (length key) 12 4 (taken - 32 + 16) (length out) b ≡ calls.open_answer (length key) (length (nonce_in s)) (length (ad_in s)) (length (sealed_in s)) (length out) b
    by_lengths b = λ i. calls.open_answer (length key) (sym (nonce_length_lem key s kind taken w) i) (sym (ad_length key s kind taken w) i) (sym (sealed_length key s kind taken w) i) (length out) b

    pub lengths_refuse : (a : ℕ) → a ≡ calls.open_answer (length key) 12 4 (taken - 32 + 16) (length out) true → (a ≡ 0 → ⊥) → Reads key s out (Refused a) out
    lengths_refuse a e h =
        let here = e ∙ by_lengths true in
        refused_opening a
        (here ∙ refused_early (length key) (length (nonce_in s)) (length (ad_in s)) (length (sealed_in s)) (length out) (authentic key (nonce_in s) (ad_in s) (sealed_in s)) (λ z. h (here ∙ z))) h

    pub lengths_pass : calls.open_answer (length key) 12 4 (taken - 32 + 16) (length out) true ≡ 0 → taken - 32 ≤ length out
    lengths_pass z =
        let o = openable (length key) (length (nonce_in s)) (length (ad_in s)) (length (sealed_in s)) (length out) true (sym (by_lengths true) ∙ z) in
        omega (arith, o.0.room, sealed_length key s kind taken w)

    -- room: how much there is plays no part
    pub same_opening : taken - 32 ≤ length out → opening (taken - 32) ≡ opening (length out)
    same_opening h = open_room (length key) (length (nonce_in s)) (length (ad_in s)) (length (sealed_in s)) (taken - 32) (length out) (authentic key (nonce_in s) (ad_in s) (sealed_in s)) (omega (arith, sealed_length key s kind taken w)) (omega (arith, sealed_length key s kind taken w))

    -- opened aside, into a part of a longer buffer that is just as long as the plaintext
    module _ (buffer after : List ℕ) (a : ℕ) (long : max_frame_plaintext ≤ length buffer) (o : Opens key (nonce_in s) (ad_in s) (sealed_in s) (take (taken - 32) buffer) a after) where
      part_length : length (take (taken - 32) buffer) ≡ taken - 32
      part_length = let b = least key s kind taken w in length-take-le (taken - 32) buffer (omega arith)

      pub aside_answer : taken - 32 ≤ length out → a ≡ opening (length out)
      aside_answer h = o.answer ∙ ap opening part_length ∙ same_opening h

      pub aside_text : a ≡ 0 → after ≡ opened_in key s
      aside_text z =
          let e : opening (length (take (taken - 32) buffer)) ≡ 0 = sym o.answer ∙ z in
          o.memory ∙ rw (eq-eqb (opening (length (take (taken - 32) buffer))) 0 e)
          (ap (λ x. opened_in key s ++ x) (drop_of_length-le (take (taken - 32) buffer) {i = length (opened_in key s)} (omega (arith, part_length, text_length key s kind taken w))) ∙ append-nil (opened_in key s))

    -- opened: what the plaintext says, or why it may not stand
    pub delivered : (text : List ℕ) (r : Reading) (after : List ℕ) → opening (length out) ≡ 0 → text ≡ opened_in key s
        → r ≡ or_refused (content_answer kind text) (message_of kind text taken) → after ≡ written (content_answer kind text) text out → Reads key s out r after
    unfolding read_of read_out
    delivered text r after o t er ea =
        let e : content_answer kind text ≡ read_answer key s (length out) =
        (λ i. content_answer (sym (whole key s kind taken w).kind_is i) (t i)) ∙ sym (after_front ∙ then_passed (opening (length out)) _ o) in
        record {
          answer = er ∙ (λ i. or_refused (e i) (message_of (sym (whole key s kind taken w).kind_is i) (t i) (sym (whole key s kind taken w).taken_is i)));
          memory = ea ∙ (λ i. written (e i) (t i) out);
        }
