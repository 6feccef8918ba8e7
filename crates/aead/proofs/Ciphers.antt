-- What is held of a key encrypts as FIPS 197 says of that key, and any schedule gives 16 bytes. Assumes nothing.
use Prim.Native.Nat.{ℕ}
use mathlib.Core.Path.{◌≡◌, refl, ap, ◌∙◌}
use mathlib.Core.Bool.{Bool, cond}
use mathlib.Core.List.{List}
use mathlib.Core.Logic.{◌⊎◌, ⊎_elim}
use borrow.Author.Tests.{eq-eqb, ne_eqb}
use native.Mathlib.Omega.{arith}
use lib.Dec.{eqb}
use lib.ListN.{length, replicate}
use Rattle.fips197.specs.Cipher.{cipher}
use Rattle.fips197.specs.KeyExpansion.{key_expansion}
use Rattle.fips197.specs.Aes.{aes}
use Rattle.fips197.proofs.Length.{cipher_length}
use Rattle.aes.proofs.Whole.{whole128, whole256}
use Rattle.aead.specs.declared.cipher.Cipher.{Cipher}
use Rattle.aead.specs.declared.cipher.Cipher.TheVariants.{Short, Long}
use Rattle.octets.specs.Strings.{copied}
use Rattle.aead.specs.Cipher.{encrypted, short_cipher, long_cipher, cipher_under}
use Rattle.octets.proofs.Copies.{copied_fills}

pub encrypted_length : (c : Cipher) (block : List ℕ) → length (encrypted c block) ≡ 16
unfolding encrypted
encrypted_length (Short schedule) block = cipher_length 10 schedule.bytes block
encrypted_length (Long schedule) block = cipher_length 14 schedule.bytes block

pub short_is_aes : (key : List ℕ) → length key ≡ 16 → encrypted (short_cipher key) ≡ aes key
unfolding encrypted
short_is_aes key e = λ i block. whole128 key block (key_expansion 4 10 key) (cipher 10 (key_expansion 4 10 key) block) e refl refl i

pub long_is_aes : (key : List ℕ) → length key ≡ 32 → encrypted (long_cipher key) ≡ aes key
unfolding encrypted
long_is_aes key e = λ i block. whole256 key block (key_expansion 8 14 key) (cipher 14 (key_expansion 8 14 key) block) e refl refl i

pub under_is_aes : (key : List ℕ) → (length key ≡ 16) ⊎ (length key ≡ 32) → encrypted (cipher_under key) ≡ aes key
unfolding cipher_under
under_is_aes key = ⊎_elim short long
  where
    chosen : Bool → Cipher
    chosen b = cond b (long_cipher key) (short_cipher (copied key (replicate 16 0)))

    short : length key ≡ 16 → encrypted (chosen (eqb (length key) 32)) ≡ aes key
    short e =
        ap (λ b. encrypted (chosen b)) (ne_eqb (length key) 32 (λ z. omega arith))
        ∙ ap (λ (k : List ℕ). encrypted (short_cipher k)) (copied_fills key (replicate 16 0) e) ∙ short_is_aes key e

    long : length key ≡ 32 → encrypted (chosen (eqb (length key) 32)) ≡ aes key
    long e = ap (λ b. encrypted (chosen b)) (eq-eqb (length key) 32 e) ∙ long_is_aes key e
