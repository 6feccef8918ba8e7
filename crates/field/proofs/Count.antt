-- Running counts: words that wrap. Assumes nothing.
use Rattle.std.proofs.Common.{◌≡◌, ℕ, ◌+◌, ◌%◌, ◌^◌, ap, ◌∙◌, add_assoc}
use native.Mathlib.Nat.{mod-add-mod}
use Rattle.field.specs.Rf.{after}

pub after_after : (j k spent : ℕ) → after k (after j spent) ≡ after (j + k) spent
after_after j k spent = mod-add-mod (spent + j) (2 ^ 64) k ∙ ap (λ n. n % 2 ^ 64) (add_assoc spent j k)
