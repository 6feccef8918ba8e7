-- The definitions of RFC 8452 computed on small cases, so that each of their numbers is held to something outside them: the counter, the bits
-- that are set and cleared, the paddings, the length block, the key of appendix A. The worked example, which takes AES, is in rfc8452_examples.
-- Assumes nothing.
use Prim.Native.Nat.{ℕ, ◌+◌, ◌*◌, ◌%◌, ◌^◌}
use mathlib.Core.Path.{◌≡◌, refl, ap}
use mathlib.Core.Bool.{cond}
use mathlib.Core.List.{List, [], ◌∷◌, ◌++◌, reverse, append-nil}
use lib.Dec.{eqb, eqb→eq}
use lib.ListN.{length, take, drop, replicate}
use lib.Seq.{drop_at}
use Rattle.octets.specs.Xor.{◌⊕◌}
use Rattle.octets.specs.Numbers.{number, bytes_of}
use Rattle.octets.specs.Strings.{xor_bytes}
use Rattle.gf2.specs.Remainder.{times_x}
use Rattle.gf2.specs.Polyval.{modulus}
use Rattle.rfc8452.specs.Blocks.{blocks_n, blocks}
use Rattle.rfc8452.specs.Machine.{polyval}
use Rattle.fips197.specs.Aes.{aes}
use Rattle.modes.specs.Stream.{stream, masked}
use Rattle.modes.specs.Mode.{sealed_by, opened_by}
use Rattle.rfc8452.specs.Keys.{derived_by, pair_by, hash_key, cipher_key}
use Rattle.rfc8452.specs.Counter.{counter_block, next_counter, mask_under}
use Rattle.rfc8452.specs.Tag.{length_block, hashed, tag_block, tag_under}
use Rattle.rfc8452.specs.Siv.{mask, tag, sealed, opened}
use Rattle.rfc8452.specs.AppendixA.{key_for}

-- the counter carries from the first byte into the second, into the top bit of the fourth, and from there into none
pub carries : (rest : List ℕ) → next_counter (255 ∷ 0 ∷ 0 ∷ 0 ∷ rest) ≡ 0 ∷ 1 ∷ 0 ∷ 0 ∷ rest
unfolding next_counter number bytes_of
carries rest = refl

pub carries_to_the_top : (rest : List ℕ) → next_counter (255 ∷ 255 ∷ 255 ∷ 127 ∷ rest) ≡ 0 ∷ 0 ∷ 0 ∷ 128 ∷ rest
unfolding next_counter number bytes_of
carries_to_the_top rest = refl

pub wraps : (rest : List ℕ) → next_counter (255 ∷ 255 ∷ 255 ∷ 255 ∷ rest) ≡ 0 ∷ 0 ∷ 0 ∷ 0 ∷ rest
unfolding next_counter number bytes_of
wraps rest = refl

-- the other twelve bytes of its block never change
pub others_stay : (block : List ℕ) → drop 4 (next_counter block) ≡ drop 4 block
unfolding next_counter bytes_of
others_stay block = drop_at (bytes_of 4 ((number (take 4 block) + 1) % 2 ^ 32)) (drop 4 block) 4 refl

-- the first counter block of a tag whose top bit is clear has it set
pub top_bit_set : counter_block (replicate 14 0x0d ++ (0x0e ∷ 0x0f ∷ [])) ≡ replicate 14 0x0d ++ (0x0e ∷ 0x8f ∷ [])
unfolding counter_block
top_bit_set = refl

-- and of a tag that has it keeps it
pub top_bit_kept : counter_block (replicate 16 0xf0) ≡ replicate 16 0xf0
unfolding counter_block
top_bit_kept = refl

-- the key stream begins at that block and goes on with the next one, here with a block cipher that changes nothing
pub counted_from_tag : mask_under (λ s. s) (255 ∷ replicate 15 0) (replicate 18 0) ≡ 255 ∷ (replicate 14 0 ++ (0x80 ∷ 0 ∷ 1 ∷ []))
unfolding masked stream counter_block next_counter xor_bytes number bytes_of ◌⊕◌
counted_from_tag = refl

-- the nonce goes to the first twelve bytes, in its order
pub nonce_in_front : tag_block (1 ∷ 2 ∷ 3 ∷ 4 ∷ 5 ∷ 6 ∷ 7 ∷ 8 ∷ 9 ∷ 10 ∷ 11 ∷ 12 ∷ []) 0 ≡ 1 ∷ 2 ∷ 3 ∷ 4 ∷ 5 ∷ 6 ∷ 7 ∷ 8 ∷ 9 ∷ 10 ∷ 11 ∷ 12 ∷ 0 ∷ 0 ∷ 0 ∷ 0 ∷ []
unfolding tag_block xor_bytes bytes_of ◌⊕◌
nonce_in_front = refl

-- and the top bit of the last byte is cleared
pub top_bit_cleared : tag_block (replicate 12 0x01) 0xfffeffffffffffffffffffffffffffff ≡ replicate 12 0xfe ++ (0xff ∷ 0xff ∷ 0xfe ∷ 0x7f ∷ [])
unfolding tag_block xor_bytes bytes_of ◌⊕◌
top_bit_cleared = refl

-- the lengths count bits, that of the associated data first, each in eight bytes
pub lengths : length_block 32 5 ≡ 0 ∷ 1 ∷ 0 ∷ 0 ∷ 0 ∷ 0 ∷ 0 ∷ 0 ∷ 40 ∷ 0 ∷ 0 ∷ 0 ∷ 0 ∷ 0 ∷ 0 ∷ 0 ∷ []
unfolding bytes_of
lengths = refl

-- associated data and text are padded each by itself: two bytes and three bytes are two blocks, and the third is the lengths
pub padded_apart : (h : ℕ) → hashed h (7 ∷ 1 ∷ []) (9 ∷ 1 ∷ 1 ∷ []) ≡ polyval h (0x0107 ∷ 0x010109 ∷ (16 + 24 * 2 ^ 64) ∷ [])
unfolding hashed blocks blocks_n number bytes_of
padded_apart h = refl

-- the tag is the encrypted block of that hash and the nonce
pub hash_encrypted : (h : ℕ) (cipher : List ℕ → List ℕ) (nonce : List ℕ)
    → tag_under h cipher nonce (7 ∷ 1 ∷ []) (9 ∷ 1 ∷ 1 ∷ []) ≡ cipher (tag_block nonce (polyval h (0x0107 ∷ 0x010109 ∷ (16 + 24 * 2 ^ 64) ∷ [])))
unfolding tag_under
hash_encrypted h cipher nonce = ap (λ s. cipher (tag_block nonce s)) (padded_apart h)

-- a derived part is the front of the encrypted block: the number, little-endian, then the nonce. Here the block cipher changes nothing
module _ (a b c d : ℕ) (rest : List ℕ) where
  pub derived_front : derived_by (λ s. s) (a ∷ b ∷ c ∷ d ∷ rest) 0x04030201 ≡ 1 ∷ 2 ∷ 3 ∷ 4 ∷ a ∷ b ∷ c ∷ d ∷ []
  unfolding bytes_of
  derived_front = refl

  pub derived_pair : pair_by (λ s. s) (a ∷ b ∷ c ∷ d ∷ rest) 2 3 ≡ 2 ∷ 0 ∷ 0 ∷ 0 ∷ a ∷ b ∷ c ∷ d ∷ 3 ∷ 0 ∷ 0 ∷ 0 ∷ a ∷ b ∷ c ∷ d ∷ []
  unfolding bytes_of
  derived_pair = refl

-- the numbers of each key: 0 and 1, 2 and 3, and of a key of 32 bytes 4 and 5
module _ (key nonce : List ℕ) where
  abbrev part : ℕ → List ℕ
  part i = take 8 (aes key (i ∷ 0 ∷ 0 ∷ 0 ∷ nonce))

  pub hash_key_lem : hash_key key nonce ≡ part 0 ++ part 1
  unfolding hash_key bytes_of
  hash_key_lem = refl

  pub cipher_key_of_16 : length key ≡ 16 → cipher_key key nonce ≡ part 2 ++ part 3
  unfolding cipher_key bytes_of
  cipher_key_of_16 long = ap (λ n. cond (eqb n 32) ((part 2 ++ part 3) ++ (part 4 ++ part 5)) (part 2 ++ part 3)) long

  pub cipher_key_of_32 : length key ≡ 32 → cipher_key key nonce ≡ (part 2 ++ part 3) ++ (part 4 ++ part 5)
  unfolding cipher_key bytes_of
  cipher_key_of_32 long = ap (λ n. cond (eqb n 32) ((part 2 ++ part 3) ++ (part 4 ++ part 5)) (part 2 ++ part 3)) long

  -- both keys in their places: the tag, the mask of one byte, and that byte sealed and opened
  pub tag_under_keys : (ad text : List ℕ) → tag key nonce ad text ≡ aes (cipher_key key nonce) (tag_block nonce (hashed (number (hash_key key nonce)) ad text))
  unfolding tag tag_under
  tag_under_keys ad text = refl

  pub byte_masked : (t : List ℕ) (x : ℕ) → mask key nonce t (x ∷ []) ≡ xor_bytes (x ∷ []) (aes (cipher_key key nonce) (counter_block t))
  unfolding mask masked stream
  byte_masked t x = ap (xor_bytes (x ∷ [])) (append-nil (aes (cipher_key key nonce) (counter_block t)))

  pub byte_sealed : (ad : List ℕ) (x : ℕ) → sealed key nonce ad (x ∷ [])
      ≡ xor_bytes (x ∷ []) (aes (cipher_key key nonce) (counter_block (tag key nonce ad (x ∷ [])))) ++ tag key nonce ad (x ∷ [])
  unfolding sealed_by
  byte_sealed ad x = ap (λ (m : List ℕ). m ++ tag key nonce ad (x ∷ [])) (byte_masked (tag key nonce ad (x ∷ [])) x)

  pub byte_opened : (x : ℕ) → opened key nonce (x ∷ replicate 16 9) ≡ xor_bytes (x ∷ []) (aes (cipher_key key nonce) (counter_block (replicate 16 9)))
  unfolding opened_by
  byte_opened x = byte_masked (replicate 16 9) x

-- appendix A: mulX_POLYVAL of the reversed H is f6ea96744df0633aec8424b18e26c54a, for H = 25629347589242761d31f826ba4b757b
pub key_for_lem : key_for (reverse (bytes_of 16 0x25629347589242761d31f826ba4b757b)) ≡ number (reverse (bytes_of 16 0xf6ea96744df0633aec8424b18e26c54a))
unfolding times_x modulus number bytes_of ◌⊕◌
key_for_lem = eqb→eq (key_for (reverse (bytes_of 16 0x25629347589242761d31f826ba4b757b))) (number (reverse (bytes_of 16 0xf6ea96744df0633aec8424b18e26c54a))) tt
