-- What `seal` and `open` owe once no length refuses: the promise, from what was written. Assumes nothing.
use Prim.Native.Nat.{ℕ, ◌+◌}
use mathlib.Core.Path.{◌≡◌, sym, ap, ap₂, ◌∙◌}
use mathlib.Core.Bool.{Bool, true, false, cond}
use mathlib.Core.List.{List, ◌++◌}
use lib.ListN.{length, drop}
use Rattle.answer.specs.Answers.{done, tag_differs}
use Rattle.sealing.specs.Calls as calls
use Rattle.sealing.proofs.Refusals.{refused_by_tag}
use Rattle.sealing.proofs.Written.{written_done}
use Rattle.rfc8452.specs.Siv.{sealed, opened, authentic}
use Rattle.sealing.specs.Siv.{seal_answer, open_answer, Seals, Opens}
use Rattle.rfc8452.proofs.Sealing.{sealed_length}

module _ (key nonce ad text out : List ℕ) where
  pub seals_done : (made after : List ℕ) → 0 ≡ seal_answer key nonce ad text (length out) → made ≡ sealed key nonce ad text → after ≡ made ++ drop (length text + 16) out
      → Seals key nonce ad text out 0 after
  seals_done made after e em ea =
      record {
        answer = e;
        memory = ea ∙ ap₂ (λ (x : List ℕ) (n : ℕ). x ++ drop n out) em (sym (sealed_length key nonce ad text))
            ∙ sym (written_done (seal_answer key nonce ad text (length out)) (sealed key nonce ad text) out (sym e));
      }

-- what opening answers once its tag is judged
abbrev pub judged_answer : (key nonce ad s : List ℕ) (room : ℕ) (b : Bool) → ℕ
judged_answer key nonce ad s room b = calls.open_answer (length key) (length nonce) (length ad) (length s) room b

module _ (key nonce ad s out : List ℕ) (passed : 0 ≡ judged_answer key nonce ad s (length out) true) where
  by_tag : (b : Bool) → cond b done tag_differs ≡ judged_answer key nonce ad s (length out) b
  by_tag true = passed
  by_tag false = sym (refused_by_tag (length key) (length nonce) (length ad) (length s) (length out) (sym passed))

  -- b is how the tag was judged, and made the text that goes to out where it agrees
  pub opens_judged : (b : Bool) (made : List ℕ) (r : ℕ) (after : List ℕ) → b ≡ authentic key nonce ad s → made ≡ opened key nonce s → r ≡ cond b done tag_differs
      → after ≡ calls.written r made out → Opens key nonce ad s out r after
  opens_judged b made r after eb em er ea =
      let answer : r ≡ open_answer key nonce ad s (length out) = er ∙ by_tag b ∙ ap (judged_answer key nonce ad s (length out)) eb in
      record { answer = answer; memory = ea ∙ ap₂ (λ (n : ℕ) (x : List ℕ). calls.written n x out) answer em }
