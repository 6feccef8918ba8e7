-- The keys of one message, RFC 8452 section 4, derive_keys. Assumes nothing.
use Rattle.std.specs.Prelude.{ℕ, cond, List, ◌++◌, eqb, length, take}
use Rattle.octets.specs.Numbers.{bytes_of}
use Rattle.fips197.specs.Aes.{aes}

-- the first 8 bytes of the encrypted block of i, 32 bits little-endian, and the nonce
abbrev pub derived_by : (cipher : List ℕ → List ℕ) (nonce : List ℕ) (i : ℕ) → List ℕ
derived_by cipher nonce i = take 8 (cipher (bytes_of 4 i ++ nonce))

-- two of them
abbrev pub pair_by : (cipher : List ℕ → List ℕ) (nonce : List ℕ) (i j : ℕ) → List ℕ
pair_by cipher nonce i j = derived_by cipher nonce i ++ derived_by cipher nonce j

-- the message authentication key: 0 and 1
unfoldable pub hash_key : (key nonce : List ℕ) → List ℕ
hash_key key nonce = pair_by (aes key) nonce 0 1

-- the message encryption key: 2 and 3, and with a key of 32 bytes 4 and 5
unfoldable pub cipher_key : (key nonce : List ℕ) → List ℕ
cipher_key key nonce =
    cond (eqb (length key) 32) (pair_by (aes key) nonce 2 3 ++ pair_by (aes key) nonce 4 5) (pair_by (aes key) nonce 2 3)
