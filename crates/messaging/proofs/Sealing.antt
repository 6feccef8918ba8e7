-- The round trips of sealing that messages rest on: aead's laws of any mode, at siv's mask and tag. Assumes nothing.
use Prim.Native.Nat.{ℕ, ◌-◌}
use mathlib.Core.Path.{◌≡◌}
use mathlib.Core.Bool.{true}
use mathlib.Core.List.{List}
use lib.ListN.{length}
use Rattle.modes.proofs.Modes as modes
use Rattle.rfc8452.specs.Siv.{mask, tag, sealed, opened, authentic}
use Rattle.rfc8452.proofs.Sealing.{mask_keeps, mask_undoes, tag_sixteen}

module _ (key nonce ad : List ℕ) where
  pub opened_length : (s : List ℕ) → length (opened key nonce s) ≡ length s - 16
  opened_length = modes.opened_length (mask key nonce) (tag key nonce ad) (mask_keeps key nonce) (mask_undoes key nonce) (tag_sixteen key nonce ad)

  pub opened_sealed : (text : List ℕ) → opened key nonce (sealed key nonce ad text) ≡ text
  opened_sealed = modes.opened_sealed (mask key nonce) (tag key nonce ad) (mask_keeps key nonce) (mask_undoes key nonce) (tag_sixteen key nonce ad)

  pub authentic_sealed : (text : List ℕ) → authentic key nonce ad (sealed key nonce ad text) ≡ true
  authentic_sealed = modes.authentic_sealed (mask key nonce) (tag key nonce ad) (mask_keeps key nonce) (mask_undoes key nonce) (tag_sixteen key nonce ad)

  pub sealed_opened : (s : List ℕ) → authentic key nonce ad s ≡ true → sealed key nonce ad (opened key nonce s) ≡ s
  sealed_opened = modes.sealed_opened (mask key nonce) (tag key nonce ad) (mask_keeps key nonce) (mask_undoes key nonce) (tag_sixteen key nonce ad)
