-- What is held of a key, also of one that AES does not know. Assumes nothing.
use Prim.Native.Nat.{ℕ, suc}
use mathlib.Core.Path.{◌≡◌, refl}
use mathlib.Core.List.{List, [], ◌∷◌, ◌++◌}
use lib.ListN.{replicate}
use Rattle.octets.specs.Strings.{copied}
use Rattle.fips197.specs.Table.{tab}
use Rattle.aead.specs.Cipher.{short_cipher, long_cipher, cipher_under}

-- the key 1, 2, .., n
abbrev counting : ℕ → List ℕ
counting n = tab n suc

-- keys of 0, 15, 17, 24, 31 and 33 bytes: filled with zeros to 16, or cut to the first 16
pub filled_or_cut : (cipher_under [] ≡ short_cipher (replicate 16 0)) × (cipher_under (counting 15) ≡ short_cipher (counting 15 ++ 0 ∷ []))
    × (cipher_under (counting 17) ≡ short_cipher (counting 16)) × (cipher_under (counting 24) ≡ short_cipher (counting 16))
    × (cipher_under (counting 31) ≡ short_cipher (counting 16)) × (cipher_under (counting 33) ≡ short_cipher (counting 16))
unfolding cipher_under copied
filled_or_cut = (refl, refl, refl, refl, refl, refl)

-- one of 16 and one of 32 as they are
pub taken_whole : (cipher_under (counting 16) ≡ short_cipher (counting 16)) × (cipher_under (counting 32) ≡ long_cipher (counting 32))
unfolding cipher_under copied
taken_whole = (refl, refl)
