-- Expanding a key and then encrypting a block under the schedule is FIPS 197's cipher of the key: what the two calls promise, together. Assumes nothing.
use mathlib.Core.Path.{◌≡◌, sym, ap, ◌∙◌}
use mathlib.Core.List.{List}
use Prim.Native.Nat.{ℕ}
use native.Mathlib.Omega.{arith}
use lib.ListN.{length}
use borrow.Author.Tests.{eq-eqb, ne_eqb}
use Rattle.fips197.specs.Cipher.{cipher}
use Rattle.fips197.specs.KeyExpansion.{key_expansion}
use Rattle.fips197.specs.Aes.{aes}

module _ (key block w r : List ℕ) where
  pub whole128 : length key ≡ 16 → w ≡ key_expansion 4 10 key → r ≡ cipher 10 w block → r ≡ aes key block
  unfolding aes
  whole128 l ew er = er ∙ ap (λ (x : List ℕ). cipher 10 x block) ew ∙ sym (simp (eq-eqb (length key) 16 l))

  pub whole256 : length key ≡ 32 → w ≡ key_expansion 8 14 key → r ≡ cipher 14 w block → r ≡ aes key block
  unfolding aes
  whole256 l ew er = er ∙ ap (λ (x : List ℕ). cipher 14 x block) ew ∙ sym (simp (ne_eqb (length key) 16 (λ e. omega arith)))
