-- Sealing and opening undo one another, by their definitions and by their calls; opening answers 0 exactly on what sealing makes.
-- Each is the law of any mode (modes/proofs/Modes; Trips and Done beside this file) at the mask and the tag of RFC 8452. Assumes nothing.
use Prim.Native.Nat.{ℕ, ◌+◌, ◌-◌, ◌≤◌}
use mathlib.Core.Path.{◌≡◌, refl, sym, ap, ◌∙◌}
use mathlib.Core.List.{List, ◌++◌}
use native.Mathlib.Omega.{arith}
use lib.ListN.{length, take, drop}
use lib.Seq.{take_at, length-take-le}
use Rattle.sealing.proofs.Done.{Sealable, seal_done}
use Rattle.modes.proofs.Modes as modes
use Rattle.sealing.proofs.Trips as trips
use Rattle.sealing.proofs.Written.{written_done}
use Rattle.rfc8452.specs.Siv.{mask, tag, sealed, opened}
use Rattle.sealing.specs.Siv.{seal_answer, open_answer, Seals, Opens}
use Rattle.rfc8452.proofs.Sealing.{mask_keeps, mask_undoes, tag_sixteen, sealed_length, opened_length}

module _ (key nonce ad : List ℕ) where
  -- sealing answers 0 wherever the lengths and the room allow it
  pub seals : (text : List ℕ) (room : ℕ) → Sealable (length key) (length nonce) (length ad) (length text) room → seal_answer key nonce ad text room ≡ 0
  seals text room h = seal_done (length key) (length nonce) (length ad) (length text) room h

  -- what was sealed holds the text
  pub opened_sealed : (text : List ℕ) → opened key nonce (sealed key nonce ad text) ≡ text
  opened_sealed text = modes.opened_sealed (mask key nonce) (tag key nonce ad) (mask_keeps key nonce) (mask_undoes key nonce) (tag_sixteen key nonce ad) text

  -- what was sealed opens
  pub open_seal : (text : List ℕ) (room place : ℕ) → seal_answer key nonce ad text room ≡ 0 → length text ≤ place → open_answer key nonce ad (sealed key nonce ad text) place ≡ 0
  open_seal text room place e l =
      trips.open_seal (mask key nonce) (tag key nonce ad) (mask_keeps key nonce) (mask_undoes key nonce) (tag_sixteen key nonce ad) (length key) (length nonce) (length ad) text room place e l

  -- what opens was sealed: sealing its text again is allowed, and gives the same bytes
  pub seal_open : (s : List ℕ) (room place : ℕ) → open_answer key nonce ad s room ≡ 0 → length s ≤ place
      → (seal_answer key nonce ad (opened key nonce s) place ≡ 0) × (sealed key nonce ad (opened key nonce s) ≡ s)
  seal_open s room place e l =
      trips.seal_open (mask key nonce) (tag key nonce ad) (mask_keeps key nonce) (mask_undoes key nonce) (tag_sixteen key nonce ad) (length key) (length nonce) (length ad) s room place e l

  -- so with room for the text opening answers 0 exactly on what sealing makes
  pub record Made (s : List ℕ) : Type 0 where
    pub text : List ℕ
    pub allowed : seal_answer key nonce ad text (length s) ≡ 0
    pub is : s ≡ sealed key nonce ad text

  pub opens_only_made : (s : List ℕ) (room : ℕ) → open_answer key nonce ad s room ≡ 0 → Made s
  opens_only_made s room e =
      let again = seal_open s room (length s) e (omega arith) in
      record { text = opened key nonce s; allowed = again.0; is = sym again.1 }

  pub opens_all_made : (s : List ℕ) (room : ℕ) → Made s → length s - 16 ≤ room → open_answer key nonce ad s room ≡ 0
  opens_all_made s room m l =
      let n : length s ≡ length m.text + 16 = ap length m.is ∙ sealed_length key nonce ad m.text in
      ap (λ (x : List ℕ). open_answer key nonce ad x room) m.is ∙ open_seal m.text (length s) room m.allowed (omega arith)

  -- the calls: what `seal` has written, `open` takes, and writes the text back
  pub call_open_seal : (text out after place left : List ℕ) (r : ℕ) → Seals key nonce ad text out 0 after → length text ≤ length place
      → Opens key nonce ad (take (length text + 16) after) place r left → (r ≡ 0) × (take (length text) left ≡ text)
  call_open_seal text out after place left r s l o =
      let zero : seal_answer key nonce ad text (length out) ≡ 0 = sym s.answer in
      let made : List ℕ = sealed key nonce ad text in
      let whole : take (length text + 16) after ≡ made =
      ap (take (length text + 16)) (s.memory ∙ written_done (seal_answer key nonce ad text (length out)) made out zero)
      ∙ take_at made (drop (length made) out) (length text + 16) (sealed_length key nonce ad text) in
      let done : open_answer key nonce ad (take (length text + 16) after) (length place) ≡ 0 =
      ap (λ (x : List ℕ). open_answer key nonce ad x (length place)) whole ∙ open_seal text (length out) (length place) zero l in
      let held : opened key nonce (take (length text + 16) after) ≡ text = ap (opened key nonce) whole ∙ opened_sealed text in (
        o.answer ∙ done,
        ap (take (length text)) (o.memory ∙ written_done (open_answer key nonce ad (take (length text + 16) after) (length place)) (opened key nonce (take (length text + 16) after)) place done
            ∙ ap (λ (x : List ℕ). x ++ drop (length x) place) held)
            ∙ take_at text (drop (length text) place) (length text) refl,
      )

  -- and what `open` has written, `seal` takes, and writes the sealed part back
  pub call_seal_open : (s out after place left : List ℕ) (r : ℕ) → Opens key nonce ad s out 0 after → length s ≤ length place
      → Seals key nonce ad (take (length s - 16) after) place r left → (r ≡ 0) × (take (length s) left ≡ s)
  call_seal_open s out after place left r o l again =
      let zero : open_answer key nonce ad s (length out) ≡ 0 = sym o.answer in
      let text : List ℕ = opened key nonce s in
      let size : length text ≡ length s - 16 = opened_length key nonce s ∙ length-take-le (length s - 16) s (omega arith) in
      let whole : take (length s - 16) after ≡ text =
      ap (take (length s - 16)) (o.memory ∙ written_done (open_answer key nonce ad s (length out)) text out zero) ∙ take_at text (drop (length text) out) (length s - 16) size in
      let both = seal_open s (length out) (length place) zero l in
      let done : seal_answer key nonce ad (take (length s - 16) after) (length place) ≡ 0 = ap (λ (x : List ℕ). seal_answer key nonce ad x (length place)) whole ∙ both.0 in
      let held : sealed key nonce ad (take (length s - 16) after) ≡ s = ap (sealed key nonce ad) whole ∙ both.1 in (
        again.answer ∙ done,
        ap (take (length s)) (again.memory ∙ written_done (seal_answer key nonce ad (take (length s - 16) after) (length place)) (sealed key nonce ad (take (length s - 16) after)) place done
            ∙ ap (λ (x : List ℕ). x ++ drop (length x) place) held)
            ∙ take_at s (drop (length s) place) (length s) refl,
      )
