-- A frame's parts, put to their places in the output one after the other; and what writing leaves. Assumes nothing.
use Prim.Native.Nat.{ℕ, ◌+◌, ◌-◌, ◌≤◌}
use mathlib.Core.Path.{◌≡◌, refl, sym, ap, ap₂, ◌∙◌}
use mathlib.Core.List.{List, ◌++◌, append_assoc}
use native.Mathlib.Omega.{arith}
use borrow.Author.Tests.{eq-eqb, ne_eqb}
use lib.ListN.{length, take, drop, length-append, length-drop}
use lib.Seq.{length-take-le, take_at, drop_at, drop-drop}
use borrow.Rule.Slice.PartMut.{put_same}
use Rattle.octets.proofs.Parts.{part_rest, part_home}
use Rattle.answer.proofs.First.{then_refused, then_passed}
use Rattle.octets.specs.Strings.{copied}
use Rattle.octets.proofs.Copies.{copied_fits}
use Rattle.sealing.specs.Calls as calls
use Rattle.sealing.specs.Calls.{written}
use Rattle.sealing.proofs.Done.{sealable}
use Rattle.rfc8452.specs.Siv.{sealed}
use Rattle.sealing.specs.Siv.{seal_answer, Seals}
use Rattle.messaging.specs.Parts.{ad_of, frame_of}
use Rattle.messaging.specs.Write.{plain_answer, write_answer, written_of, write_out, Writes}
use Rattle.message.specs.SealFrame.{SealsFrame}
use Rattle.rfc8452.proofs.Sealing.{sealed_length}
use Rattle.messaging.proofs.Writing.{ad_length, frame_length}

-- the head: the associated data, and then the nonce behind it
pub head_put : (ad nonce out one two : List ℕ) → length ad ≡ 4 → length nonce ≡ 12 → 16 ≤ length out → one ≡ copied ad out → two ≡ copied nonce (take (length one - 4) (drop 4 one))
    → take 4 one ++ (two ++ drop (length one - 4) (drop 4 one)) ≡ ad ++ (nonce ++ drop 16 out)
head_put ad nonce out one two l4 l12 long e f =
    let one_is : one ≡ ad ++ drop 4 out = e ∙ copied_fits ad out (omega arith) ∙ ap (λ n. ad ++ drop n out) l4 in
    let front : take 4 one ≡ ad = ap (take 4) one_is ∙ take_at ad (drop 4 out) 4 l4 in
    let rest : drop 4 one ≡ drop 4 out = ap (drop 4) one_is ∙ drop_at ad (drop 4 out) 4 l4 in
    let two_is : two ≡ nonce ++ drop 16 out =
    f ∙ ap (copied nonce) (part_rest 4 one ∙ rest) ∙ copied_fits nonce (drop 4 out) (rw length-drop (omega arith))
    ∙ ap (λ n. nonce ++ drop n (drop 4 out)) l12 ∙ ap (λ x. nonce ++ x) (drop-drop 12 4 out) in
    part_home 4 one two ∙ ap₂ (λ x y. x ++ y) front two_is

-- the sealed part, behind the place of the head
module _ (kind : ℕ) (key nonce text out ad : List ℕ) (r : ℕ) (part : List ℕ) (long : 16 ≤ length out) (is-ad : ad ≡ ad_of kind text)
    (s : Seals key nonce ad text (take (length out - 16) (drop 16 out)) r part) where
  abbrev sealing : ℕ
  sealing = seal_answer key nonce (ad_of kind text) text (length out - 16)

  room : length (take (length out - 16) (drop 16 out)) ≡ length out - 16
  room = ap length (part_rest 16 out) ∙ length-drop 16 out

  pub sealed_answer : r ≡ sealing
  sealed_answer = s.answer ∙ (λ i. seal_answer key nonce (is-ad i) text (room i))

  part_is : part ≡ written sealing (sealed key nonce (ad_of kind text) text) (take (length out - 16) (drop 16 out))
  part_is = s.memory ∙ (λ i. written (seal_answer key nonce (is-ad i) text (room i)) (sealed key nonce (is-ad i) text) (take (length out - 16) (drop 16 out)))

  -- where sealing has not refused, the nonce fits its place
  pub head_fits : r ≡ 0 → (rest : List ℕ) → (length nonce ≡ 12) × (16 ≤ length (take 16 out ++ rest))
  head_fits z rest = (
    (sealable (length key) (length nonce) (length (ad_of kind text)) (length text) (length out - 16) (sym sealed_answer ∙ z)).keyed.nonce,
    rw length-append (omega (arith, length-take-le 16 out long)),
  )

  pub frame_refused : (r ≡ 0 → ⊥) → SealsFrame kind key nonce text out r (take 16 out ++ (part ++ drop (length out - 16) (drop 16 out)))
  frame_refused h =
      let no : sealing ≡ 0 → ⊥ = λ z. h (sealed_answer ∙ z) in
      let same : part ≡ take (length out - 16) (drop 16 out) = part_is ∙ rw (ne_eqb sealing 0 no) in
      record {
        answer = sealed_answer;
        memory =
            ap (λ x. take 16 out ++ (x ++ drop (length out - 16) (drop 16 out))) same
            ∙ put_same 16 (length out - 16) out ∙ sym (rw (ne_eqb sealing 0 no));
      }

  pub frame_done : (after : List ℕ) → r ≡ 0 → length nonce ≡ 12 → after ≡ ad ++ (nonce ++ drop 16 (take 16 out ++ (part ++ drop (length out - 16) (drop 16 out)))) → SealsFrame kind key nonce text out r after
  unfolding frame_of
  frame_done after z l12 e =
      let box = sealed key nonce (ad_of kind text) text in
      let yes : sealing ≡ 0 = sym sealed_answer ∙ z in
      let n = length (frame_of kind key nonce text) in
      let behind : drop 16 (take 16 out ++ (part ++ drop (length out - 16) (drop 16 out))) ≡ part =
      ap (drop 16) (part_home 16 out part) ∙ drop_at (take 16 out) part 16 (length-take-le 16 out long) in
      let size : 16 + length box ≡ n = omega (arith, sealed_length key nonce (ad_of kind text) text, frame_length kind key nonce text l12) in
      let is_part : part ≡ box ++ drop n out =
      part_is ∙ rw (eq-eqb sealing 0 yes)
      (ap (λ x. box ++ drop (length box) x) (part_rest 16 out) ∙ ap (λ x. box ++ x) (drop-drop (length box) 16 out)
      ∙ ap (λ m. box ++ drop m out) size) in
      record {
        answer = sealed_answer;
        memory =
            e ∙ (λ i. is-ad i ++ (nonce ++ (behind ∙ is_part) i))
            ∙ ap (λ x. ad_of kind text ++ x) (sym (append_assoc nonce box (drop n out)))
            ∙ sym (append_assoc (ad_of kind text) (nonce ++ box) (drop n out))
            ∙ sym (rw (eq-eqb sealing 0 yes));
      }

-- writing, by what it asks first and by what sealing answers
module _ (kind : ℕ) (key nonce text out : List ℕ) where
  write_refused : (a : ℕ) → write_answer kind key nonce text (length out) ≡ a → (a ≡ 0 → ⊥) → (after : List ℕ) → after ≡ out → Writes kind key nonce text out (record { answer = a; len = 0 }) after
  unfolding written_of write_out
  write_refused a e h after m =
      let no : write_answer kind key nonce text (length out) ≡ 0 → ⊥ = λ z. h (sym e ∙ z) in
      record {
        answer = (λ i. record { answer = sym e i; len = 0 }) ∙ sym (rw (ne_eqb (write_answer kind key nonce text (length out)) 0 no));
        memory = m ∙ sym (rw (ne_eqb (write_answer kind key nonce text (length out)) 0 no));
      }

  pub plain_refused : (a : ℕ) → a ≡ plain_answer kind text → (a ≡ 0 → ⊥) → Writes kind key nonce text out (record { answer = a; len = 0 }) out
  unfolding write_answer
  plain_refused a e h = write_refused a (then_refused (plain_answer kind text) _ (λ z. h (e ∙ z)) ∙ sym e) h out refl

  module _ (passed : plain_answer kind text ≡ 0) where
    after_plain : write_answer kind key nonce text (length out) ≡ seal_answer key nonce (ad_of kind text) text (length out - 16)
    unfolding write_answer
    after_plain = then_passed (plain_answer kind text) _ passed

    -- what sealing refuses by its lengths, and the room where these pass
    pub lengths_refuse : (a : ℕ) → a ≡ calls.seal_answer (length key) (length nonce) 4 (length text) (length out - 16) → (a ≡ 0 → ⊥) → Writes kind key nonce text out (record { answer = a; len = 0 }) out
    lengths_refuse a e h = write_refused a (after_plain ∙ sym (e ∙ (λ i. calls.seal_answer (length key) (length nonce) (sym (ad_length kind text) i) (length text) (length out - 16)))) h out refl

    pub lengths_pass : calls.seal_answer (length key) (length nonce) 4 (length text) (length out - 16) ≡ 0 → 16 ≤ length out
    lengths_pass z = let s = sealable (length key) (length nonce) 4 (length text) (length out - 16) z in omega (arith, s.room)

    module _ (r : ℕ) (after : List ℕ) (f : SealsFrame kind key nonce text out r after) where
      pub sealing_refused : (r ≡ 0 → ⊥) → Writes kind key nonce text out (record { answer = r; len = 0 }) after
      sealing_refused h =
          let no : seal_answer key nonce (ad_of kind text) text (length out - 16) ≡ 0 → ⊥ = λ z. h (f.answer ∙ z) in
          write_refused r (after_plain ∙ sym f.answer) h after (f.memory ∙ rw (ne_eqb (seal_answer key nonce (ad_of kind text) text (length out - 16)) 0 no))

      pub written_done : r ≡ 0 → Writes kind key nonce text out (record { answer = r; len = length text + 32 }) after
      unfolding written_of write_out
      written_done z =
          let yes : write_answer kind key nonce text (length out) ≡ 0 = after_plain ∙ sym f.answer ∙ z in
          record {
            answer = (λ i. record { answer = (f.answer ∙ sym after_plain) i; len = length text + 32 }) ∙ sym (rw (eq-eqb (write_answer kind key nonce text (length out)) 0 yes));
            memory = f.memory ∙ ap (λ a. written a (frame_of kind key nonce text) out) (sym after_plain);
          }
