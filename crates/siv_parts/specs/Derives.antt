-- The keys of one message as code holds them. Assumes nothing.
use Rattle.std.specs.Prelude.{◌≡◌, ℕ, cond, List, ◌++◌, length, ◌==◌}
use Rattle.octets.specs.Numbers.{number}
use Rattle.field.specs.Element.{value, element}
use Rattle.aead.specs.Cipher.{encrypted, short_cipher, long_cipher, cipher_under}
use Rattle.siv_parts.specs.declared.keys.Keys.{Keys}
use Rattle.rfc8452.specs.Keys.{pair_by}

-- the keys as code holds them, for any given key: the hash key as a field element with all of its number, the cipher with its schedule,
-- and the nonce
pub record Derives (key nonce : List ℕ) (k : Keys) : Type 0 where
  pub hash : k.hash ≡ element (number (pair_by (encrypted (cipher_under key)) nonce 0 1))
  pub whole : value k.hash ≡ number (pair_by (encrypted (cipher_under key)) nonce 0 1)
  pub cipher : k.cipher ≡ cond (length key == 32)
      (long_cipher (pair_by (encrypted (cipher_under key)) nonce 2 3 ++ pair_by (encrypted (cipher_under key)) nonce 4 5))
      (short_cipher (pair_by (encrypted (cipher_under key)) nonce 2 3))
  pub nonce_is : k.nonce ≡ nonce
