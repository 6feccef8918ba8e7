-- Round trips: what was written is read again, whatever follows it; what is read was written. Assumes nothing.
use Prim.Native.Nat.{ℕ, ◌+◌, ◌*◌, ◌/◌, ◌%◌, ◌≤◌, ◌<◌}
use mathlib.Core.Path.{◌≡◌, refl, sym, ap, ap₂, ◌∙◌}
use mathlib.Core.Bool.{true}
use mathlib.Core.List.{List, [], ◌∷◌, ◌++◌, append_assoc}
use mathlib.Core.Logic.{◌⊎◌}
use native.Mathlib.Omega.{arith}
use borrow.Author.Tests.{eq-eqb}
use lib.ListN.{length, get_or, take, drop}
use lib.Seq.{take-add}
use Rattle.octets.specs.Numbers.{bytes_of}
use Rattle.octets.proofs.Numbers.{Bytes, cells_part, byte_at}
use Rattle.answer.specs.First.{◌then◌}
use Rattle.answer.proofs.First.{then_passed, both_done}
use Rattle.sealing.specs.Calls.{written}
use Rattle.sealing.proofs.Done.{Openable, open_done, openable}
use Rattle.rfc8452.specs.Siv.{sealed, opened, authentic}
use Rattle.sealing.specs.Siv.{open_answer}
use Rattle.framing.specs.Kinds.{is_known, is_allowed, max_frame_plaintext}
use Rattle.framing.specs.Front.{Whole, kind_of, sealed_len, taken_of, stop_of, front_of}
use Rattle.framing.proofs.Whole.{IsWhole, is_whole, whole_is, whole_bounds, whole_before, no_reason}
use Rattle.messaging.specs.Parts.{ad_of, frame_of, ad_in, nonce_in, sealed_in, opened_in}
use Rattle.messaging.specs.Message.{content_answer, message_of}
use Rattle.messaging.specs.Write.{write_answer}
use Rattle.messaging.specs.Read.{or_refused, read_answer, read_of, read_out}
use Rattle.rfc8452.proofs.Sealing.{sealed_length}
use Rattle.messaging.proofs.Sealing.{opened_sealed, authentic_sealed, sealed_opened}
use Rattle.messaging.proofs.Writing.{longest_seals, Writable, write_done, writable, short, ad_length, ad_in_lem, nonce_in_lem, len_in, sealed_in_lem, whole_frame}
use Rattle.messaging.proofs.Reading.{text_length}

-- a frame that was sealed, its content aside, with anything behind it
module _ (kind : ℕ) (key nonce text rest : List ℕ) (room : ℕ) (k : is_known kind ≡ true) (l : is_allowed kind (length text + 16) ≡ true)
    (key_length_lem : (length key ≡ 16) ⊎ (length key ≡ 32)) (n12 : length nonce ≡ 12) (roomy : length text ≤ room) where
  abbrev s : List ℕ
  s = frame_of kind key nonce text ++ rest

  abbrev box : List ℕ
  box = sealed key nonce (ad_of kind text) text

  small : length text ≤ max_frame_plaintext
  small = short kind (length text) l

  stands : stop_of s ≡ 0
  stands = no_reason s kind _ (whole_is s kind _ (whole_before (frame_of kind key nonce text) rest kind _ (whole_frame kind key nonce text k l n12)))

  opens : open_answer key (nonce_in s) (ad_in s) (sealed_in s) room ≡ 0
  opens =
      let size = sealed_length key nonce (ad_of kind text) text in
      let sm = small in
      (λ i. open_answer key (nonce_in_lem kind key nonce text rest n12 small i) (ad_in_lem kind key nonce text rest n12 small i) (sealed_in_lem kind key nonce text rest n12 small i) room)
      ∙ open_done (length key) (length nonce) (length (ad_of kind text)) (length box) room (authentic key nonce (ad_of kind text) box)
      (record {
        keyed = record { key = key_length_lem; nonce = n12; ad = omega (arith, ad_length kind text) };
        tagged = omega arith;
        sealed = omega (arith, longest_seals);
        room = omega arith;
      })
      (authentic_sealed key nonce (ad_of kind text) text)

  pub text_again : opened_in key s ≡ text
  text_again =
      (λ i. opened key (nonce_in_lem kind key nonce text rest n12 small i) (sealed_in_lem kind key nonce text rest n12 small i))
      ∙ opened_sealed key nonce (ad_of kind text) text

  kind_again : kind_of s ≡ kind
  unfolding frame_of
  kind_again = refl

  taken_again : taken_of s ≡ length text + 32
  taken_again = omega (arith, len_in kind key nonce text rest n12 small)

  -- the tag agrees, so the content decides
  pub content_decides : read_answer key s room ≡ content_answer kind text
  unfolding read_answer
  content_decides =
      then_passed (stop_of s) _ stands ∙ then_passed (open_answer key (nonce_in s) (ad_in s) (sealed_in s) room) _ opens
      ∙ ap₂ content_answer kind_again text_again

  pub read_again : read_of key s room ≡ or_refused (content_answer kind text) (message_of kind text (length text + 32))
  unfolding read_of
  read_again = (λ i. or_refused (content_decides i) (message_of (kind_again i) (text_again i) (taken_again i)))

-- what was written is read: the same message, with the bytes that its frame takes, and its plaintext in the output
module _ (kind : ℕ) (key nonce text rest : List ℕ) (place : ℕ) (w : write_answer kind key nonce text place ≡ 0) where
  can : Writable kind key nonce text place
  can = writable kind key nonce text place w

  pub read_write : (room : ℕ) → length text ≤ room → read_of key (frame_of kind key nonce text ++ rest) room ≡ message_of kind text (length text + 32)
  read_write room h =
      read_again kind key nonce text rest room can.known can.allowed can.key_length_lem can.nonce_length_lem h
      ∙ rw (eq-eqb (content_answer kind text) 0 can.content)

  pub read_write_out : (out : List ℕ) → length text ≤ length out → read_out key (frame_of kind key nonce text ++ rest) out ≡ text ++ drop (length text) out
  unfolding read_out
  read_write_out out h =
      (λ i. written
      (content_decides kind key nonce text rest (length out) can.known can.allowed can.key_length_lem can.nonce_length_lem h i)
      (text_again kind key nonce text rest (length out) can.known can.allowed can.key_length_lem can.nonce_length_lem h i) out)
      ∙ rw (eq-eqb (content_answer kind text) 0 can.content)

-- two bytes, taken out of their number again
low_byte : (a b : ℕ) → a < 256 → (a + b * 256) % 256 ≡ a
low_byte a b h = omega arith

high_byte : (a b : ℕ) → a < 256 → b < 256 → (a + b * 256) / 256 % 256 ≡ b
high_byte a b h k =
    let e : (a + b * 256) / 256 ≡ b = omega arith in
    let f : b % 256 ≡ b = omega arith in
    ap (λ n. n % 256) e ∙ f

-- a frame that was accepted
module _ (key s : List ℕ) (room : ℕ) (bytes : Bytes s) (e : read_answer key s room ≡ 0) where
  abbrev text : List ℕ
  text = opened_in key s

  abbrev opening : ℕ
  opening = open_answer key (nonce_in s) (ad_in s) (sealed_in s) room

  passed : (stop_of s ≡ 0) × (opening ≡ 0) × (content_answer (kind_of s) text ≡ 0)
  unfolding read_answer
  passed =
      let first = both_done (stop_of s) (opening then content_answer (kind_of s) text) e in
      let second = both_done opening (content_answer (kind_of s) text) first.1 in
      (first.0, second.0, second.1)

  front_is : front_of s ≡ Whole (kind_of s) (taken_of s)
  unfolding front_of
  front_is = rw (eq-eqb (stop_of s) 0 passed.0)

  pub whole : IsWhole s (kind_of s) (taken_of s)
  whole = is_whole s (kind_of s) (taken_of s) front_is

  sealable_part : Openable (length key) (length (nonce_in s)) (length (ad_in s)) (length (sealed_in s)) room × (authentic key (nonce_in s) (ad_in s) (sealed_in s) ≡ true)
  sealable_part = openable (length key) (length (nonce_in s)) (length (ad_in s)) (length (sealed_in s)) room (authentic key (nonce_in s) (ad_in s) (sealed_in s)) passed.1

  pub len_is : length text + 16 ≡ sealed_len s
  len_is =
      let b = whole_bounds s (kind_of s) (taken_of s) whole in
      omega (arith, text_length key s (kind_of s) (taken_of s) front_is)

  -- the first four bytes are the header that would be written
  ad_is : ad_of (kind_of s) text ≡ ad_in s
  unfolding bytes_of
  ad_is =
      let b2 = byte_at s bytes 2 in
      let b3 = byte_at s bytes 3 in
      let i = whole.inside in
      let low : (length text + 16) % 256 ≡ get_or s 2 0 = ap (λ n. n % 256) len_is ∙ low_byte _ _ b2 in
      let high : (length text + 16) / 256 % 256 ≡ get_or s 3 0 = ap (λ n. n / 256 % 256) len_is ∙ high_byte _ _ b2 b3 in
      (λ i. sym whole.marked i ∷ kind_of s ∷ low i ∷ high i ∷ []) ∙ cells_part 0 4 s (omega arith)

  -- it is the frame that is written of what was read
  pub frame_again : frame_of (kind_of s) key (nonce_in s) text ≡ take (taken_of s) s
  unfolding frame_of
  frame_again =
      (λ i. ad_is i ++ (nonce_in s ++ sealed key (nonce_in s) (ad_is i) text))
      ∙ ap (λ x. ad_in s ++ (nonce_in s ++ x)) (sealed_opened key (nonce_in s) (ad_in s) (sealed_in s) sealable_part.1)
      ∙ sym (append_assoc (ad_in s) (nonce_in s) (sealed_in s))
      ∙ ap (λ x. x ++ sealed_in s) (sym (take-add 4 12 s))
      ∙ sym (take-add 16 (sealed_len s) s)

  -- and writing it again is not refused, where there is room
  pub write_again : (place : ℕ) → taken_of s ≤ place → write_answer (kind_of s) key (nonce_in s) text place ≡ 0
  write_again place h =
      let k = sealable_part.0.keyed in
      let b = whole_bounds s (kind_of s) (taken_of s) whole in
      write_done (kind_of s) key (nonce_in s) text place
      (record {
        known = whole.known;
        allowed = ap (is_allowed (kind_of s)) len_is ∙ whole.allowed;
        content = passed.2;
        key_length_lem = k.key;
        nonce_length_lem = k.nonce;
        roomy = omega (arith, len_is);
      })
