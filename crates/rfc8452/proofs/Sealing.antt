-- Masks and tags of RFC 8452: lengths, that a mask undoes itself, and that the derived keys as code holds them are those of the definitions.
-- Assumes nothing.
use Prim.Native.Nat.{ℕ, ◌+◌}
use mathlib.Core.Path.{◌≡◌, ap, ◌∙◌}
use mathlib.Core.Bool.{true}
use mathlib.Core.List.{List}
use lib.ListN.{length}
use Rattle.octets.specs.Numbers.{number}
use Rattle.fips197.specs.Aes.{aes}
use Rattle.fips197.proofs.Length.{aes_length}
use Rattle.octets.specs.Strings.{same_bytes}
use Rattle.modes.specs.Mode.{sealed_by, body_of, tag_of, opened_by, authentic_by}
use Rattle.modes.proofs.Stream.{masked_length, masked_twice}
use Rattle.modes.proofs.Modes as modes
use Rattle.rfc8452.specs.Keys.{hash_key, cipher_key}
use Rattle.rfc8452.specs.Tag.{hashed, tag_block, tag_under}
use Rattle.rfc8452.specs.Counter.{next_counter, counter_block, mask_under}
use Rattle.rfc8452.specs.Siv.{mask, tag, sealed, opened, authentic}

module _ (key nonce : List ℕ) where
  pub mask_keeps : (t text : List ℕ) → length (mask key nonce t text) ≡ length text
  unfolding mask
  mask_keeps t text = masked_length next_counter (aes (cipher_key key nonce)) (counter_block t) text

  pub mask_undoes : (t text : List ℕ) → mask key nonce t (mask key nonce t text) ≡ text
  unfolding mask
  mask_undoes t text = masked_twice next_counter (aes (cipher_key key nonce)) (counter_block t) text

  pub tag_sixteen : (ad text : List ℕ) → length (tag key nonce ad text) ≡ 16
  unfolding tag tag_under
  tag_sixteen ad text = aes_length (cipher_key key nonce) (tag_block nonce (hashed (number (hash_key key nonce)) ad text))

  pub sealed_length : (ad text : List ℕ) → length (sealed key nonce ad text) ≡ length text + 16
  sealed_length ad text = modes.sealed_length (mask key nonce) (tag key nonce ad) mask_keeps mask_undoes (tag_sixteen ad) text

  -- the text that a sealed part claims
  pub opened_length : (s : List ℕ) → length (opened key nonce s) ≡ length (body_of s)
  unfolding opened_by
  opened_length s = mask_keeps (tag_of s) (body_of s)

  -- what was sealed opens, and what opens was sealed
  pub sealed_opens : (ad text : List ℕ) → (opened key nonce (sealed key nonce ad text) ≡ text) × (authentic key nonce ad (sealed key nonce ad text) ≡ true)
  sealed_opens ad text = (
    modes.opened_sealed (mask key nonce) (tag key nonce ad) mask_keeps mask_undoes (tag_sixteen ad) text,
    modes.authentic_sealed (mask key nonce) (tag key nonce ad) mask_keeps mask_undoes (tag_sixteen ad) text,
  )

  pub opened_was_sealed : (ad s : List ℕ) → authentic key nonce ad s ≡ true → sealed key nonce ad (opened key nonce s) ≡ s
  opened_was_sealed ad s = modes.sealed_opened (mask key nonce) (tag key nonce ad) mask_keeps mask_undoes (tag_sixteen ad) s

  -- under keys that are held otherwise but are the same
  module _ (h : ℕ) (f : List ℕ → List ℕ) (eh : h ≡ number (hash_key key nonce)) (ef : f ≡ aes (cipher_key key nonce)) where
    held_mask : (t text : List ℕ) → mask_under f t text ≡ mask key nonce t text
    unfolding mask
    held_mask t text = ap (λ (g : List ℕ → List ℕ). mask_under g t text) ef

    held_tag : (ad text : List ℕ) → tag_under h f nonce ad text ≡ tag key nonce ad text
    unfolding tag
    held_tag ad text = λ i. tag_under (eh i) (ef i) nonce ad text

    pub held_sealed : (ad text : List ℕ) → sealed_by (mask_under f) (tag_under h f nonce ad) text ≡ sealed key nonce ad text
    unfolding mask tag
    held_sealed ad text = λ i. sealed_by (mask_under (ef i)) (tag_under (eh i) (ef i) nonce ad) text

    pub held_opened : (s : List ℕ) → mask_under f (tag_of s) (body_of s) ≡ opened key nonce s
    unfolding opened_by
    held_opened s = held_mask (tag_of s) (body_of s)

    pub held_authentic : (ad s : List ℕ) → same_bytes (tag_under h f nonce ad (mask_under f (tag_of s) (body_of s))) (tag_of s) ≡ authentic key nonce ad s
    unfolding authentic_by opened_by
    held_authentic ad s =
        ap (λ (x : List ℕ). same_bytes x (tag_of s)) (held_tag ad (mask_under f (tag_of s) (body_of s)) ∙ ap (tag key nonce ad) (held_mask (tag_of s) (body_of s)))
