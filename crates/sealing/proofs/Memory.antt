-- What sealing and opening leave in the output: the new bytes at its front where they answer 0, and else every byte as it was, so where
-- the tag differs too. Assumes nothing.
use Prim.Native.Nat.{ℕ, ◌+◌, ◌-◌}
use mathlib.Core.Path.{◌≡◌, refl, sym, ap, ◌∙◌}
use mathlib.Core.Bool.{false, true≢false}
use mathlib.Core.List.{List, [], ◌∷◌, ◌++◌}
use lib.ListN.{length, drop, replicate}
use lib.Seq.{length-take-le}
use native.Mathlib.Omega.{arith}
use Rattle.rfc8452.specs.Siv.{sealed, opened, authentic}
use Rattle.rfc8452.proofs.Sealing.{sealed_length, opened_length}
use Rattle.sealing.specs.Calls.{written}
use Rattle.sealing.specs.Siv.{seal_answer, open_answer, seal_out, open_out, Seals, Opens}
use Rattle.sealing.proofs.Written.{written_done, written_refused}
use Rattle.sealing.proofs.Done.{openable}

-- on three bytes: 0 leaves two new ones and the third, any refusal all three
pub two_of_three : (written 0 (1 ∷ 2 ∷ []) (7 ∷ 8 ∷ 9 ∷ []) ≡ 1 ∷ 2 ∷ 9 ∷ []) × (written 1 (1 ∷ 2 ∷ []) (7 ∷ 8 ∷ 9 ∷ []) ≡ 7 ∷ 8 ∷ 9 ∷ [])
    × (written 8 (1 ∷ 2 ∷ []) (7 ∷ 8 ∷ 9 ∷ []) ≡ 7 ∷ 8 ∷ 9 ∷ [])
two_of_three = (refl, refl, refl)

module _ (key nonce ad : List ℕ) where
  -- "Every refusal leaves all lent buffers ... unchanged", whatever its number
  pub seal_refused_keeps : (text out : List ℕ) → (seal_answer key nonce ad text (length out) ≡ 0 → ⊥) → seal_out key nonce ad text out ≡ out
  seal_refused_keeps text out h = written_refused (seal_answer key nonce ad text (length out)) (sealed key nonce ad text) out h

  pub open_refused_keeps : (s out : List ℕ) → (open_answer key nonce ad s (length out) ≡ 0 → ⊥) → open_out key nonce ad s out ≡ out
  open_refused_keeps s out h = written_refused (open_answer key nonce ad s (length out)) (opened key nonce s) out h

  -- "No output byte changes unless they agree"
  pub differing_tag_keeps : (s out : List ℕ) → authentic key nonce ad s ≡ false → open_out key nonce ad s out ≡ out
  differing_tag_keeps s out d =
      open_refused_keeps s out (λ e. true≢false (sym (openable (length key) (length nonce) (length ad) (length s) (length out) (authentic key nonce ad s) e).1 ∙ d))

  -- "Bytes past the written part keep their values"
  pub seal_done_writes : (text out : List ℕ) → seal_answer key nonce ad text (length out) ≡ 0 → seal_out key nonce ad text out ≡ sealed key nonce ad text ++ drop (length text + 16) out
  seal_done_writes text out e =
      written_done (seal_answer key nonce ad text (length out)) (sealed key nonce ad text) out e
      ∙ ap (λ n. sealed key nonce ad text ++ drop n out) (sealed_length key nonce ad text)

  pub open_done_writes : (s out : List ℕ) → open_answer key nonce ad s (length out) ≡ 0 → open_out key nonce ad s out ≡ opened key nonce s ++ drop (length s - 16) out
  open_done_writes s out e =
      written_done (open_answer key nonce ad s (length out)) (opened key nonce s) out e
      ∙ ap (λ n. opened key nonce s ++ drop n out) (opened_length key nonce s ∙ length-take-le (length s - 16) s (omega arith))

  -- the same of the calls
  pub call_seal_refused : (text out after : List ℕ) (r : ℕ) → Seals key nonce ad text out r after → (r ≡ 0 → ⊥) → after ≡ out
  call_seal_refused text out after r s h = s.memory ∙ seal_refused_keeps text out (λ e. h (s.answer ∙ e))

  pub call_open_refused : (s out after : List ℕ) (r : ℕ) → Opens key nonce ad s out r after → (r ≡ 0 → ⊥) → after ≡ out
  call_open_refused s out after r o h = o.memory ∙ open_refused_keeps s out (λ e. h (o.answer ∙ e))

-- and without a key, computed
pub no_key_keeps : (ad s : List ℕ) → (seal_out [] (replicate 12 0) ad s (7 ∷ 8 ∷ 9 ∷ []) ≡ 7 ∷ 8 ∷ 9 ∷ []) × (open_out [] (replicate 12 0) ad s (7 ∷ 8 ∷ 9 ∷ []) ≡ 7 ∷ 8 ∷ 9 ∷ [])
no_key_keeps ad s = (refl, refl)
