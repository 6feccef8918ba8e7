-- Sealing and opening undo one another, in any mode whose mask keeps a text's length and undoes itself and whose tags have 16 bytes.
-- Assumes nothing.
use Prim.Native.Nat.{ℕ, ◌+◌, ◌-◌}
use mathlib.Core.Path.{◌≡◌, ap, ap₂, ◌∙◌}
use mathlib.Core.Bool.{true}
use mathlib.Core.List.{List, ◌++◌}
use native.Mathlib.Omega.{arith}
use lib.ListN.{length, length-append, take-append-drop}
use lib.Seq.{take_at, drop_at, length-take-le}
use Rattle.octets.specs.Strings.{same_bytes}
use Rattle.modes.specs.Mode.{sealed_by, body_of, tag_of, opened_by, authentic_by}
use Rattle.octets.proofs.Same.{same_is, same_self}

module _ (mask : List ℕ → List ℕ → List ℕ) (tag : List ℕ → List ℕ)
    (keeps : (t text : List ℕ) → length (mask t text) ≡ length text)
    (undoes : (t text : List ℕ) → mask t (mask t text) ≡ text)
    (sixteen : (text : List ℕ) → length (tag text) ≡ 16) where
  pub sealed_length : (text : List ℕ) → length (sealed_by mask tag text) ≡ length text + 16
  unfolding sealed_by
  sealed_length text = length-append (mask (tag text) text) (tag text) ∙ ap₂ ◌+◌ (keeps (tag text) text) (sixteen text)

  pub opened_length : (s : List ℕ) → length (opened_by mask s) ≡ length s - 16
  unfolding opened_by
  opened_length s = keeps (tag_of s) (body_of s) ∙ length-take-le (length s - 16) s (omega arith)

  -- a sealed text comes apart as it was put together
  body_sealed : (text : List ℕ) → body_of (sealed_by mask tag text) ≡ mask (tag text) text
  unfolding sealed_by
  body_sealed text = take_at (mask (tag text) text) (tag text) (length (sealed_by mask tag text) - 16) (keeps (tag text) text ∙ omega (arith, sealed_length text))

  tag_sealed : (text : List ℕ) → tag_of (sealed_by mask tag text) ≡ tag text
  unfolding sealed_by
  tag_sealed text = drop_at (mask (tag text) text) (tag text) (length (sealed_by mask tag text) - 16) (keeps (tag text) text ∙ omega (arith, sealed_length text))

  -- what was sealed opens
  pub opened_sealed : (text : List ℕ) → opened_by mask (sealed_by mask tag text) ≡ text
  unfolding opened_by
  opened_sealed text = ap₂ mask (tag_sealed text) (body_sealed text) ∙ undoes (tag text) text

  pub authentic_sealed : (text : List ℕ) → authentic_by mask tag (sealed_by mask tag text) ≡ true
  unfolding authentic_by
  authentic_sealed text = ap₂ same_bytes (ap tag (opened_sealed text)) (tag_sealed text) ∙ same_self (tag text)

  -- what opens was sealed: sealing its text again gives the same bytes
  pub sealed_opened : (s : List ℕ) → authentic_by mask tag s ≡ true → sealed_by mask tag (opened_by mask s) ≡ s
  unfolding authentic_by sealed_by opened_by
  sealed_opened s h =
      let t : tag (opened_by mask s) ≡ tag_of s = same_is (tag (opened_by mask s)) (tag_of s) h in
      ap (λ (x : List ℕ). mask x (opened_by mask s) ++ x) t ∙ ap (λ (x : List ℕ). x ++ tag_of s) (undoes (tag_of s) (body_of s)) ∙ take-append-drop (length s - 16) s
