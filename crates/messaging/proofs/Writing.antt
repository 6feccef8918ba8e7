-- When a frame is written: exactly where kind, length, range, key, nonce and room allow; and that what is written is a
-- whole frame. Assumes nothing.
use Prim.Native.Nat.{ℕ, ◌+◌, ◌-◌, ◌*◌, ◌/◌, ◌%◌, ◌≤◌, ◌<◌}
use mathlib.Core.Path.{◌≡◌, refl, sym, ap, ap₂, ◌∙◌}
use mathlib.Core.Bool.{true, false, not, cond}
use mathlib.Core.List.{List, [], ◌∷◌, ◌++◌, append_assoc}
use mathlib.Core.Logic.{◌⊎◌}
use native.Mathlib.Omega.{arith}
use borrow.Author.Tests.{not-false}
use lib.Dec.{eqb, leb→le}
use lib.ListN.{length, take, drop, length-append}
use lib.Seq.{take_at, drop_at}
use Rattle.octets.specs.Numbers.{bytes_of}
use Rattle.answer.specs.Answers.{done, unknown_kind, length_for_kind}
use Rattle.answer.specs.First.{◌⇒◌}
use Rattle.answer.proofs.First.{Passed, Told, all_passed, then_passed, both_done}
use Rattle.sealing.specs.Limits.{max_plaintext}
use Rattle.sealing.specs.Calls.{written}
use Rattle.sealing.proofs.Done.{seal_done, sealable}
use Rattle.rfc8452.specs.Siv.{sealed}
use Rattle.sealing.specs.Siv.{seal_answer}
use Rattle.framing.specs.Kinds.{table, is_known, is_allowed, max_frame_plaintext}
use Rattle.framing.specs.Front.{sealed_len}
use Rattle.framing.proofs.Rows.{allowed_bounds, longest_fits}
use Rattle.framing.proofs.Whole.{IsWhole, whole_is}
use Rattle.framing.proofs.Longest.{IsFrame}
use Rattle.messaging.specs.Parts.{ad_of, frame_of, ad_in, nonce_in, sealed_in}
use Rattle.messaging.specs.Message.{content_answer}
use Rattle.messaging.specs.Write.{kind_answer, plain_answer, write_answer, written_of, write_out}
use Rattle.rfc8452.proofs.Sealing.{sealed_length}

-- a kind with an allowed length and content, a key of 16 or 32 bytes, a nonce of 12, and room
pub record Writable (kind : ℕ) (key nonce text : List ℕ) (room : ℕ) : Type 0 where
  pub known : is_known kind ≡ true
  pub allowed : is_allowed kind (length text + 16) ≡ true
  pub content : content_answer kind text ≡ 0
  pub key_length_lem : (length key ≡ 16) ⊎ (length key ≡ 32)
  pub nonce_length_lem : length nonce ≡ 12
  pub roomy : length text + 32 ≤ room

-- every plaintext of a frame may be sealed
pub longest_seals : max_frame_plaintext ≤ max_plaintext
unfolding max_frame_plaintext table
longest_seals = leb→le max_frame_plaintext max_plaintext tt

-- a text of an allowed length is short
pub short : (kind n : ℕ) → is_allowed kind (n + 16) ≡ true → n ≤ max_frame_plaintext
short kind n h = let b = allowed_bounds kind (n + 16) h in omega arith

module _ (kind : ℕ) (text : List ℕ) where
  kind_done : is_known kind ≡ true → is_allowed kind (length text + 16) ≡ true → kind_answer kind text ≡ 0
  kind_done k l = rw (k, l)

  pub no_kind : is_known kind ≡ false → unknown_kind ≡ plain_answer kind text
  no_kind k = sym (rw k)

  pub no_length : is_known kind ≡ true → is_allowed kind (length text + 16) ≡ false → length_for_kind ≡ plain_answer kind text
  no_length k l = sym (rw (k, l))

  pub asked_content : is_known kind ≡ true → is_allowed kind (length text + 16) ≡ true → content_answer kind text ≡ plain_answer kind text
  asked_content k l = sym (then_passed (kind_answer kind text) (content_answer kind text) (kind_done k l))

  kind_passed : kind_answer kind text ≡ 0 → (is_known kind ≡ true) × (is_allowed kind (length text + 16) ≡ true)
  unfolding Passed Told
  kind_passed e =
      let p = all_passed (not (is_known kind) ⇒ _ ∷ not (is_allowed kind (length text + 16)) ⇒ _ ∷ []) (omega arith, (omega arith, tt)) e in
      (not-false (is_known kind) p.0, not-false (is_allowed kind (length text + 16)) p.1.0)

  -- what has passed is short
  pub passed_short : plain_answer kind text ≡ 0 → length text ≤ max_frame_plaintext
  passed_short e = short kind (length text) (kind_passed (both_done (kind_answer kind text) (content_answer kind text) e).0).1

  pub ad_length : length (ad_of kind text) ≡ 4
  unfolding bytes_of
  ad_length = refl

-- a frame is written wherever all that holds
pub write_done : (kind : ℕ) (key nonce text : List ℕ) (room : ℕ) → Writable kind key nonce text room → write_answer kind key nonce text room ≡ 0
unfolding write_answer
write_done kind key nonce text room w =
    let s = short kind (length text) w.allowed in
    let r = w.roomy in
    then_passed (plain_answer kind text) _ (then_passed (kind_answer kind text) _ (kind_done kind text w.known w.allowed) ∙ w.content)
    ∙ seal_done (length key) (length nonce) (length (ad_of kind text)) (length text) (room - 16)
    (record { keyed = record { key = w.key_length_lem; nonce = w.nonce_length_lem; ad = omega (arith, ad_length kind text) }; text = omega (arith, longest_seals); room = omega arith })

-- and nowhere else
pub writable : (kind : ℕ) (key nonce text : List ℕ) (room : ℕ) → write_answer kind key nonce text room ≡ 0 → Writable kind key nonce text room
unfolding write_answer
writable kind key nonce text room e =
    let all = both_done (plain_answer kind text) (seal_answer key nonce (ad_of kind text) text (room - 16)) e in
    let plain = both_done (kind_answer kind text) (content_answer kind text) all.0 in
    let k = kind_passed kind text plain.0 in
    let s = sealable (length key) (length nonce) (length (ad_of kind text)) (length text) (room - 16) all.1 in
    let r = s.room in
    record { known = k.0; allowed = k.1; content = plain.1; key_length_lem = s.keyed.key; nonce_length_lem = s.keyed.nonce; roomy = omega arith }

-- the length field, as it is read again
two_bytes : (n : ℕ) → n < 65536 → n % 256 + n / 256 % 256 * 256 ≡ n
two_bytes n h = omega arith

-- a frame comes apart as it was put together, whatever follows it
module _ (kind : ℕ) (key nonce text rest : List ℕ) (twelve : length nonce ≡ 12) (small : length text ≤ max_frame_plaintext) where
  abbrev box : List ℕ
  box = sealed key nonce (ad_of kind text) text

  after_ad : (nonce ++ box) ++ rest ≡ nonce ++ (box ++ rest)
  after_ad = append_assoc nonce box rest

  pub ad_in_lem : ad_in (frame_of kind key nonce text ++ rest) ≡ ad_of kind text
  unfolding frame_of bytes_of
  ad_in_lem = refl

  pub nonce_in_lem : nonce_in (frame_of kind key nonce text ++ rest) ≡ nonce
  unfolding frame_of bytes_of
  nonce_in_lem = ap (take 12) after_ad ∙ take_at nonce (box ++ rest) 12 twelve

  pub len_in : sealed_len (frame_of kind key nonce text ++ rest) ≡ length text + 16
  unfolding frame_of bytes_of
  len_in = two_bytes (length text + 16) (omega (arith, longest_fits))

  pub sealed_in_lem : sealed_in (frame_of kind key nonce text ++ rest) ≡ box
  unfolding frame_of bytes_of
  sealed_in_lem =
      ap₂ take len_in (ap (drop 12) after_ad ∙ drop_at nonce (box ++ rest) 12 twelve)
      ∙ take_at box rest (length text + 16) (sealed_length key nonce (ad_of kind text) text)

pub frame_length : (kind : ℕ) (key nonce text : List ℕ) → length nonce ≡ 12 → length (frame_of kind key nonce text) ≡ length text + 32
unfolding frame_of
frame_length kind key nonce text twelve =
    length-append (ad_of kind text) (nonce ++ sealed key nonce (ad_of kind text) text)
    ∙ ap₂ ◌+◌ (ad_length kind text) (length-append nonce (sealed key nonce (ad_of kind text) text))
    ∙ omega (arith, sealed_length key nonce (ad_of kind text) text)

-- a writing that is not refused: 0 with n + 32 bytes, the frame at the front of the output, and what follows it as it was
pub written_whole : (kind : ℕ) (key nonce text out : List ℕ) → Writable kind key nonce text (length out)
    → (written_of kind key nonce text (length out) ≡ record { answer = 0; len = length text + 32 }) × (write_out kind key nonce text out ≡ frame_of kind key nonce text ++ drop (length text + 32) out)
unfolding written_of write_out
written_whole kind key nonce text out w =
    let e = write_done kind key nonce text (length out) w in (
      (λ i. record { answer = e i; len = cond (eqb (e i) done) (length text + 32) 0 }),
      (λ i. written (e i) (frame_of kind key nonce text) out)
          ∙ ap (λ n. frame_of kind key nonce text ++ drop n out) (frame_length kind key nonce text w.nonce_length_lem),
    )

-- what is written is a whole frame
pub whole_frame : (kind : ℕ) (key nonce text : List ℕ) → is_known kind ≡ true → is_allowed kind (length text + 16) ≡ true → length nonce ≡ 12
    → IsWhole (frame_of kind key nonce text) kind (length (frame_of kind key nonce text))
unfolding frame_of bytes_of
whole_frame kind key nonce text k l n =
    let s = short kind (length text) l in
    let len : sealed_len (frame_of kind key nonce text) ≡ length text + 16 = two_bytes (length text + 16) (omega (arith, longest_fits)) in
    let long = frame_length kind key nonce text n in
    record {
      marked = refl;
      kind_is = refl;
      known = k;
      taken_is = omega arith;
      allowed = ap (is_allowed kind) len ∙ l;
      inside = omega arith;
    }

pub is_frame : (kind : ℕ) (key nonce text : List ℕ) (room : ℕ) → write_answer kind key nonce text room ≡ 0 → IsFrame (frame_of kind key nonce text)
is_frame kind key nonce text room e =
    let w = writable kind key nonce text room e in
    record { kind = kind; whole = whole_is _ _ _ (whole_frame kind key nonce text w.known w.allowed w.nonce_length_lem) }
