-- Sealing and opening, RFC 8452 sections 4 and 5. Every argument is a byte string. Assumes nothing.
use Rattle.std.specs.Prelude.{ℕ, Bool, List}
use Rattle.octets.specs.Numbers.{number}
use Rattle.fips197.specs.Aes.{aes}
use Rattle.modes.specs.Mode.{sealed_by, opened_by, authentic_by}
use Rattle.rfc8452.specs.Keys.{hash_key, cipher_key}
use Rattle.rfc8452.specs.Tag.{tag_under}
use Rattle.rfc8452.specs.Counter.{mask_under}

-- a text masked under a tag, and the tag of a text, with the keys that the nonce gives
unfoldable pub mask : (key nonce tag text : List ℕ) → List ℕ
mask key nonce tag text = mask_under (aes (cipher_key key nonce)) tag text

unfoldable pub tag : (key nonce ad text : List ℕ) → List ℕ
tag key nonce ad text = tag_under (number (hash_key key nonce)) (aes (cipher_key key nonce)) nonce ad text

-- section 4: the masked text, then the tag
abbrev pub sealed : (key nonce ad text : List ℕ) → List ℕ
sealed key nonce ad text = sealed_by (mask key nonce) (tag key nonce ad) text

-- section 5: the text that a sealed part claims, and whether the tag that it should have is the tag that came
abbrev pub opened : (key nonce s : List ℕ) → List ℕ
opened key nonce s = opened_by (mask key nonce) s

abbrev pub authentic : (key nonce ad s : List ℕ) → Bool
authentic key nonce ad s = authentic_by (mask key nonce) (tag key nonce ad) s
