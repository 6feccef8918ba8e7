-- The answers of sealing and opening: what both ask first decides, or is passed over. Assumes nothing.
use Prim.Native.Nat.{ℕ, ◌+◌, ◌-◌, ◌≤◌, ◌<◌}
use mathlib.Core.Path.{◌≡◌, refl, sym, ap, ◌∙◌}
use mathlib.Core.Bool.{Bool, true, false, not, cond}
use mathlib.Core.List.{List, [], ◌∷◌, ◌++◌}
use borrow.Author.Tests.{lt-ltb, le-ltb, eq-eqb, ne_eqb, eqb-true, eqb-false}
use lib.Dec.{eqb, ltb, lit<}
use Rattle.answer.specs.Answers.{text_too_long, sealed_too_short, no_room, tag_differs}
use Rattle.sealing.specs.Limits.{max_plaintext, max_sealed}
use Rattle.answer.specs.First.{Refusal, ◌⇒◌, first}
use Rattle.answer.proofs.First.{Told, passed_over, all_passed, refused_before}
use Rattle.sealing.specs.Calls.{is_no_key, is_no_nonce, common_refusals, seal_answer, open_answer}

pub no_key : (k : ℕ) → (k ≡ 16 → ⊥) → (k ≡ 32 → ⊥) → is_no_key k ≡ true
no_key k p q = simp (ne_eqb k 16 p, ne_eqb k 32 q)

pub short_key : (k : ℕ) → k ≡ 16 → is_no_key k ≡ false
short_key k e = simp (eq-eqb k 16 e)

pub long_key_lem : (k : ℕ) → k ≡ 32 → is_no_key k ≡ false
long_key_lem k e = ap is_no_key e

pub no_nonce : (n : ℕ) → (n ≡ 12 → ⊥) → is_no_nonce n ≡ true
no_nonce n p = ap not (ne_eqb n 12 p)

pub nonce_length_lem : (n : ℕ) → n ≡ 12 → is_no_nonce n ≡ false
nonce_length_lem n e = ap not (eq-eqb n 12 e)

-- what each asks after that
abbrev pub seal_rest : (text room : ℕ) → List Refusal
seal_rest text room = ltb max_plaintext text ⇒ text_too_long ∷ ltb room (text + 16) ⇒ no_room ∷ []

abbrev pub open_rest : (sealed room : ℕ) (authentic : Bool) → List Refusal
open_rest sealed room authentic =
    ltb sealed 16 ⇒ sealed_too_short ∷ ltb max_sealed sealed ⇒ text_too_long ∷ ltb room (sealed - 16) ⇒ no_room ∷ not authentic ⇒ tag_differs ∷ []

module _ (key nonce ad : ℕ) where
  common_told : Told (common_refusals key nonce ad)
  unfolding Told
  common_told = (lit< tt, (lit< tt, (lit< tt, tt)))

  common_passed : (rs : List Refusal) → first (common_refusals key nonce ad) ≡ 0 → first rs ≡ first (common_refusals key nonce ad ++ rs)
  common_passed rs e = sym (passed_over (common_refusals key nonce ad) rs (all_passed (common_refusals key nonce ad) common_told e))

  pub seal_refused : (text room : ℕ) → (first (common_refusals key nonce ad) ≡ 0 → ⊥) → first (common_refusals key nonce ad) ≡ seal_answer key nonce ad text room
  seal_refused text room h = sym (refused_before (common_refusals key nonce ad) (seal_rest text room) h)

  pub seal_passed : (text room : ℕ) → first (common_refusals key nonce ad) ≡ 0 → first (seal_rest text room) ≡ seal_answer key nonce ad text room
  seal_passed text room e = common_passed (seal_rest text room) e

  pub open_refused : (sealed room : ℕ) (a : Bool) → (first (common_refusals key nonce ad) ≡ 0 → ⊥) → first (common_refusals key nonce ad) ≡ open_answer key nonce ad sealed room a
  open_refused sealed room a h = sym (refused_before (common_refusals key nonce ad) (open_rest sealed room a) h)

  pub open_passed : (sealed room : ℕ) (a : Bool) → first (common_refusals key nonce ad) ≡ 0 → first (open_rest sealed room a) ≡ open_answer key nonce ad sealed room a
  open_passed sealed room a e = common_passed (open_rest sealed room a) e

  -- how much room there is plays no part beyond whether it is enough, and without room the tag plays none
  pub seal_no_room : (text room place : ℕ) → room < text + 16 → place < text + 16 → seal_answer key nonce ad text room ≡ seal_answer key nonce ad text place
  seal_no_room text room place h k = rw (lt-ltb room (text + 16) h, lt-ltb place (text + 16) k)

  pub open_no_room : (sealed room : ℕ) (a b : Bool) → room < sealed - 16 → open_answer key nonce ad sealed room a ≡ open_answer key nonce ad sealed room b
  open_no_room sealed room a b h = rw (lt-ltb room (sealed - 16) h)

  pub open_room : (sealed room place : ℕ) (a : Bool) → sealed - 16 ≤ room → sealed - 16 ≤ place → open_answer key nonce ad sealed room a ≡ open_answer key nonce ad sealed place a
  open_room sealed room place a h k = rw (le-ltb room (sealed - 16) h, le-ltb place (sealed - 16) k)

-- opening asks of lengths first, and of the tag last
module _ (key nonce ad sealed room : ℕ) where
  abbrev lengths : List Refusal
  lengths = common_refusals key nonce ad ++ (ltb sealed 16 ⇒ sealed_too_short ∷ ltb max_sealed sealed ⇒ text_too_long ∷ ltb room (sealed - 16) ⇒ no_room ∷ [])

  by_tag : (b : Bool) → first lengths ≡ 0 → open_answer key nonce ad sealed room b ≡ cond (not b) tag_differs 0
  unfolding Told
  by_tag b e = passed_over lengths (not b ⇒ tag_differs ∷ []) (all_passed lengths (lit< tt, (lit< tt, (lit< tt, (lit< tt, (lit< tt, (lit< tt, tt)))))) e)

  by_lengths : (b : Bool) → (first lengths ≡ 0 → ⊥) → open_answer key nonce ad sealed room b ≡ first lengths
  by_lengths b h = refused_before lengths (not b ⇒ tag_differs ∷ []) h

  -- what is refused whatever the tag
  pub refused_early : (b : Bool) → (open_answer key nonce ad sealed room true ≡ 0 → ⊥) → open_answer key nonce ad sealed room true ≡ open_answer key nonce ad sealed room b
  refused_early b h =
      let g : first lengths ≡ 0 → ⊥ = λ e. h (by_tag true e) in
      by_lengths true g ∙ sym (by_lengths b g)

  -- what only the tag refuses
  pub refused_by_tag : open_answer key nonce ad sealed room true ≡ 0 → open_answer key nonce ad sealed room false ≡ tag_differs
  refused_by_tag e = by_tag false (by_zero (eqb (first lengths) 0) refl)
    where
      by_zero : (b : Bool) → eqb (first lengths) 0 ≡ b → first lengths ≡ 0
      by_zero true t = eqb-true (first lengths) 0 t
      by_zero false t = sym (by_lengths true (eqb-false (first lengths) 0 t)) ∙ e
