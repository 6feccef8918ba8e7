-- AES with a schedule made before, for a key of either length (FIPS 197 section 5). Assumes nothing.
use Rattle.std.specs.Prelude.{ℕ, cond, List, eqb, length, replicate}
use lib.Dec.{lit≤}
use Rattle.fips197.specs.Cipher.{cipher}
use Rattle.fips197.specs.KeyExpansion.{key_expansion}
use Rattle.octets.specs.Strings.{copied}
use Rattle.aead.specs.declared.cipher.Cipher.{Cipher}
use Rattle.aead.specs.declared.cipher.Cipher.TheVariants.{Short, Long}

-- the block under the key's schedule: whatever bytes it holds
unfoldable pub encrypted : (c : Cipher) (block : List ℕ) → List ℕ
encrypted (Short schedule) block = cipher 10 schedule.bytes block
encrypted (Long schedule) block = cipher 14 schedule.bytes block

-- what code holds of a key: its schedule
abbrev pub short_cipher : (key : List ℕ) → Cipher
short_cipher key = Short (record { bytes = key_expansion 4 10 key; has_a_round = lit≤ tt })

abbrev pub long_cipher : (key : List ℕ) → Cipher
long_cipher key = Long (record { bytes = key_expansion 8 14 key; has_a_round = lit≤ tt })

-- by the key's length: one that has neither 16 nor 32 bytes is cut or filled to 16
unfoldable pub cipher_under : (key : List ℕ) → Cipher
cipher_under key = cond (eqb (length key) 32) (long_cipher key) (short_cipher (copied key (replicate 16 0)))
