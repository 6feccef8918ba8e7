-- From the encrypted blocks of an example to its keys, and from its keys to its tag. Assumes nothing.
use Prim.Native.Nat.{ℕ}
use mathlib.Core.Path.{◌≡◌, ap₂}
use mathlib.Core.List.{List, ◌++◌}
use lib.ListN.{take}
use Rattle.octets.specs.Numbers.{number}
use Rattle.fips197.specs.Aes.{aes}
use Rattle.rfc8452.specs.Keys.{hash_key, cipher_key}
use Rattle.rfc8452.specs.Tag.{hashed, tag_block, tag_under}
use Rattle.rfc8452.specs.Siv.{tag}

-- the first 8 bytes of two blocks
pub first_halves : {x x' y y' : List ℕ} → x ≡ x' → y ≡ y' → take 8 x ++ take 8 y ≡ take 8 x' ++ take 8 y'
first_halves p q = ap₂ (λ (a b : List ℕ). take 8 a ++ take 8 b) p q

pub tag_by_keys : (key nonce ad text : List ℕ) {authentication encryption : List ℕ} → hash_key key nonce ≡ authentication → cipher_key key nonce ≡ encryption
    → tag key nonce ad text ≡ aes encryption (tag_block nonce (hashed (number authentication) ad text))
unfolding tag tag_under
tag_by_keys key nonce ad text p q = ap₂ (λ (k c : List ℕ). aes c (tag_block nonce (hashed (number k) ad text))) p q
