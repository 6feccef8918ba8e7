-- The pieces of a derived key, as code puts them together, and that the keys so made are RFC 8452's. Assumes nothing.
use Rattle.std.proofs.Common.{◌≡◌, ℕ, ◌+◌, Bool, true, false, cond, eqb, ◌⊎◌, List, ◌++◌, length, take, drop, sym, ap, ◌∙◌, ap₂, inl, inr, ⊎_elim, append-nil, arith, refl, drop_of_length-le, length-append, length-drop, length-take-le, take_at, eq-eqb, ne_eqb}
use Rattle.octets.specs.Numbers.{number, bytes_of}
use Rattle.fips197.specs.Aes.{aes}
use Rattle.field.specs.Element.{value, element}
use Rattle.aead.specs.declared.cipher.Cipher.{Cipher}
use Rattle.octets.specs.Strings.{copied}
use Rattle.aead.specs.Cipher.{encrypted, short_cipher, long_cipher, cipher_under}
use Rattle.aead.proofs.Ciphers.{encrypted_length, short_is_aes, long_is_aes, under_is_aes}
use Rattle.octets.proofs.Copies.{copied_fits}
use Rattle.octets.specs.Places.{Puts}
use Rattle.octets.proofs.Places.{put_wrote}
use Rattle.siv_parts.specs.declared.keys.Keys.{Keys}
use Rattle.rfc8452.specs.Keys.{derived_by, pair_by, hash_key, cipher_key}
use Rattle.siv_parts.specs.Derives.{Derives}

-- one string copied to the front of another's place and one put behind it, which fill it
pub joined_parts : (low high d x y : List ℕ) {next : ℕ} → length low + length high ≡ length d → x ≡ copied low d → Puts x (length low) high y next → y ≡ low ++ high
joined_parts low high d x y fits ex put =
    let n : ℕ = length low in
    let whole : x ≡ low ++ drop n d = ex ∙ copied_fits low d (omega arith) in
    let size : length x ≡ length d = ap length whole ∙ length-append low (drop n d) ∙ omega (arith, length-drop n d) in
    let front : take n x ≡ low = ap (take n) whole ∙ take_at low (drop n d) n refl in
    (put_wrote (omega arith) put).out_is
    ∙ ap₂ (λ (l r : List ℕ). l ++ (high ++ r)) front (drop_of_length-le x {i = n + length high} (omega arith)) ∙ ap (λ (l : List ℕ). low ++ l) (append-nil high)

-- a pair of a cipher that gives 16 bytes has 16
pair_length : (f : List ℕ → List ℕ) → ((b : List ℕ) → length (f b) ≡ 16) → (nonce : List ℕ) (i j : ℕ) → length (pair_by f nonce i j) ≡ 16
pair_length f sixteen nonce i j =
    let half : (b : List ℕ) → length (take 8 (f b)) ≡ 8 = λ b. length-take-le 8 (f b) (omega (arith, sixteen b)) in
    length-append (derived_by f nonce i) (derived_by f nonce j) ∙ ap₂ ◌+◌ (half (bytes_of 4 i ++ nonce)) (half (bytes_of 4 j ++ nonce))

-- the keys that code derives are RFC 8452's, where the given key has a length that it knows
module _ (key nonce : List ℕ) (k : Keys) (d : Derives key nonce k) where
  pub derived_hash : (length key ≡ 16) ⊎ (length key ≡ 32) → value k.hash ≡ number (hash_key key nonce)
  unfolding hash_key
  derived_hash e = d.whole ∙ ap (λ (f : List ℕ → List ℕ). number (pair_by f nonce 0 1)) (under_is_aes key e)

  -- the element holds all of the hash key's number
  pub derived_element : k.hash ≡ element (value k.hash)
  derived_element = d.hash ∙ ap element (sym d.whole)

  chosen : Bool → Cipher
  chosen b =
      cond b (long_cipher (pair_by (encrypted (cipher_under key)) nonce 2 3 ++ pair_by (encrypted (cipher_under key)) nonce 4 5))
      (short_cipher (pair_by (encrypted (cipher_under key)) nonce 2 3))

  short_cipher_lem : length key ≡ 16 → encrypted (chosen (eqb (length key) 32)) ≡ aes (cipher_key key nonce)
  unfolding chosen cipher_key
  short_cipher_lem e =
      let f : List ℕ → List ℕ = encrypted (cipher_under key) in
      let no : eqb (length key) 32 ≡ false = ne_eqb (length key) 32 (λ z. omega arith) in
      ap (λ b. encrypted (chosen b)) no ∙ short_is_aes (pair_by f nonce 2 3) (pair_length f (encrypted_length (cipher_under key)) nonce 2 3)
      ∙ ap (λ (g : List ℕ → List ℕ). aes (pair_by g nonce 2 3)) (under_is_aes key (inl e)) ∙ sym (simp no)

  long_cipher_lem : length key ≡ 32 → encrypted (chosen (eqb (length key) 32)) ≡ aes (cipher_key key nonce)
  unfolding chosen cipher_key
  long_cipher_lem e =
      let f : List ℕ → List ℕ = encrypted (cipher_under key) in
      let yes : eqb (length key) 32 ≡ true = eq-eqb (length key) 32 e in
      let size : length (pair_by f nonce 2 3 ++ pair_by f nonce 4 5) ≡ 32 =
      length-append (pair_by f nonce 2 3) (pair_by f nonce 4 5) ∙ ap₂ ◌+◌ (pair_length f (encrypted_length (cipher_under key)) nonce 2 3) (pair_length f (encrypted_length (cipher_under key)) nonce 4 5) in
      ap (λ b. encrypted (chosen b)) yes ∙ long_is_aes (pair_by f nonce 2 3 ++ pair_by f nonce 4 5) size
      ∙ ap (λ (g : List ℕ → List ℕ). aes (pair_by g nonce 2 3 ++ pair_by g nonce 4 5)) (under_is_aes key (inr e)) ∙ sym (simp yes)

  pub derived_cipher : (length key ≡ 16) ⊎ (length key ≡ 32) → encrypted k.cipher ≡ aes (cipher_key key nonce)
  unfolding chosen
  derived_cipher e = ap encrypted d.cipher ∙ ⊎_elim short_cipher_lem long_cipher_lem e

  -- with a key that has not 32 bytes, of whatever length, the cipher's key is blocks 2 and 3
  pub derived_short : (length key ≡ 32 → ⊥) → k.cipher ≡ short_cipher (pair_by (encrypted (cipher_under key)) nonce 2 3)
  unfolding chosen
  derived_short h = d.cipher ∙ ap chosen (ne_eqb (length key) 32 h)
