-- Round trips by their answers, in any mode whose mask keeps a text's length and undoes itself and whose tags have 16 bytes: what was
-- sealed opens, what opens was sealed, and opening answers 0 on nothing else. Assumes nothing.
use Prim.Native.Nat.{ℕ, ◌≤◌}
use mathlib.Core.Path.{◌≡◌, sym, ap, ◌∙◌, subst}
use mathlib.Core.List.{List}
use lib.ListN.{length}
use Rattle.modes.specs.Mode.{sealed_by, opened_by, authentic_by}
use Rattle.sealing.specs.Calls.{seal_answer, open_answer}
use Rattle.modes.proofs.Modes.{sealed_length, opened_length, authentic_sealed, sealed_opened}
use Rattle.sealing.proofs.Done.{Openable, seal_done, sealable, open_done, openable, sealed_openable, opened_sealable}

module _ (mask : List ℕ → List ℕ → List ℕ) (tag : List ℕ → List ℕ)
    (keeps : (t text : List ℕ) → length (mask t text) ≡ length text)
    (undoes : (t text : List ℕ) → mask t (mask t text) ≡ text)
    (sixteen : (text : List ℕ) → length (tag text) ≡ 16)
    (key nonce ad : ℕ) where
  pub open_seal : (text : List ℕ) (room place : ℕ) → seal_answer key nonce ad (length text) room ≡ 0 → length text ≤ place
      → open_answer key nonce ad (length (sealed_by mask tag text)) place (authentic_by mask tag (sealed_by mask tag text)) ≡ 0
  open_seal text room place e l =
      open_done key nonce ad (length (sealed_by mask tag text)) place (authentic_by mask tag (sealed_by mask tag text))
      (subst (λ n. Openable key nonce ad n place) (sym (sealed_length mask tag keeps undoes sixteen text))
      (sealed_openable key nonce ad (length text) room place (sealable key nonce ad (length text) room e) l))
      (authentic_sealed mask tag keeps undoes sixteen text)

  pub seal_open : (s : List ℕ) (room place : ℕ) → open_answer key nonce ad (length s) room (authentic_by mask tag s) ≡ 0 → length s ≤ place
      → (seal_answer key nonce ad (length (opened_by mask s)) place ≡ 0) × (sealed_by mask tag (opened_by mask s) ≡ s)
  seal_open s room place e l =
      let o = openable key nonce ad (length s) room (authentic_by mask tag s) e in (
        ap (λ n. seal_answer key nonce ad n place) (opened_length mask tag keeps undoes sixteen s)
            ∙ seal_done key nonce ad _ place (opened_sealable key nonce ad (length s) room place o.0 l),
        sealed_opened mask tag keeps undoes sixteen s o.1,
      )
