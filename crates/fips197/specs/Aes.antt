-- AES by the key's length, FIPS 197 section 5. Assumes nothing.
use Rattle.std.specs.Prelude.{List, ℕ, length, eqb}
use Rattle.fips197.specs.Cipher.{cipher}
use Rattle.fips197.specs.KeyExpansion.{pick, key_expansion}

-- the block under a key of 16 bytes (AES-128: Nk 4, Nr 10), else of 32 (AES-256: Nk 8, Nr 14)
unfoldable pub aes : List ℕ → List ℕ → List ℕ
aes key block = pick (eqb (length key) 16) (cipher 10 (key_expansion 4 10 key) block) (cipher 14 (key_expansion 8 14 key) block)
