-- RFC 8452 section 8, the worked example: every value that it gives, computed from the definitions. Assumes nothing.
use Prim.Native.Nat.{ℕ}
use mathlib.Core.Path.{◌≡◌, refl, ap, ap₂, ◌∙◌}
use mathlib.Core.List.{List, [], ◌++◌}
use Rattle.octets.specs.Xor.{◌⊕◌}
use Rattle.octets.specs.Numbers.{number, bytes_of}
use Rattle.octets.specs.Strings.{xor_bytes}
use Rattle.gf2.specs.Carryless.{clmul_n, clmul}
use Rattle.gf2.specs.Remainder.{times_x, remainder_n, remainder}
use Rattle.gf2.specs.Polyval.{modulus, x_inv128, dot}
use Rattle.fips197.specs.Field.{gmul, powers, inverse}
use Rattle.fips197.specs.Sbox.{affine, sbox}
use Rattle.fips197.specs.Cipher.{sub_bytes, shift_rows, mix, mix_columns, add_round_key, rounds, cipher}
use Rattle.fips197.specs.KeyExpansion.{sum, power, temp, expand, key_expansion}
use Rattle.fips197.specs.Aes.{aes}
use Rattle.fips197.proofs.Cases.{hex}
use Rattle.modes.specs.Stream.{stream, masked}
use Rattle.modes.specs.Mode.{sealed_by}
use Rattle.rfc8452.specs.Machine.{step, run}
use Rattle.rfc8452.specs.Blocks.{blocks_n, blocks}
use Rattle.rfc8452.specs.Keys.{hash_key, cipher_key}
use Rattle.rfc8452.specs.Tag.{length_block, hashed, tag_block}
use Rattle.rfc8452.specs.Counter.{counter_block, next_counter}
use Rattle.rfc8452.specs.Siv.{mask, tag, sealed}
use Rattle.rfc8452_examples.specs.Examples.{key, nonce, ad, text}
use Rattle.rfc8452_examples.proofs.Steps.{first_halves, tag_by_keys}

-- the blocks of the numbers 0 to 3, encrypted
derived_blocks : (aes key (bytes_of 4 0 ++ nonce) ≡ hex 16 0x310728d9911f1f38c40e952ca83d093e) × (aes key (bytes_of 4 1 ++ nonce) ≡ hex 16 0x37b24316c3fab9a046ae90952daa0450)
    × (aes key (bytes_of 4 2 ++ nonce) ≡ hex 16 0xa4c5ae624996327947920b2d2412474b) × (aes key (bytes_of 4 3 ++ nonce) ≡ hex 16 0xc100be4d7e2c6edd1efef004305ab1e7)
unfolding bytes_of aes cipher rounds add_round_key mix_columns mix shift_rows sub_bytes key_expansion expand temp power sum sbox affine inverse powers gmul remainder remainder_n times_x clmul clmul_n ◌⊕◌
derived_blocks = (refl, refl, refl, refl)

-- both keys
authentication_key : hash_key key nonce ≡ hex 16 0x310728d9911f1f3837b24316c3fab9a0
unfolding hash_key bytes_of
authentication_key = first_halves derived_blocks.0 derived_blocks.1

abbrev encryption_key : List ℕ
encryption_key = hex 16 0xa4c5ae6249963279c100be4d7e2c6edd

encryption_key_lem : cipher_key key nonce ≡ encryption_key
unfolding cipher_key bytes_of
encryption_key_lem = first_halves derived_blocks.2 derived_blocks.3

-- the length block
lengths : length_block 7 11 ≡ hex 16 0x38000000000000005800000000000000
unfolding bytes_of
lengths = refl

-- S_s
hash : hashed (number (hex 16 0x310728d9911f1f3837b24316c3fab9a0)) ad text ≡ number (hex 16 0xad7fcf0b5169851662672f3c5f95138f)
unfolding hashed run step dot modulus x_inv128 blocks blocks_n number bytes_of remainder remainder_n times_x clmul clmul_n ◌⊕◌
hash = refl

-- the nonce added, the top bit cleared
masked_hash : tag_block nonce (number (hex 16 0xad7fcf0b5169851662672f3c5f95138f)) ≡ hex 16 0xd85575d8b1c630e256bb6c2c5f95130f
unfolding tag_block xor_bytes number bytes_of ◌⊕◌
masked_hash = refl

-- encrypted, which is the tag
abbrev tag_bytes : List ℕ
tag_bytes = hex 16 0x4fbcdeb7e4793f4a1d7e4faa70100af1

encrypted_hash : aes encryption_key (hex 16 0xd85575d8b1c630e256bb6c2c5f95130f) ≡ tag_bytes
unfolding bytes_of aes cipher rounds add_round_key mix_columns mix shift_rows sub_bytes key_expansion expand temp power sum sbox affine inverse powers gmul remainder remainder_n times_x clmul clmul_n ◌⊕◌
encrypted_hash = refl

-- its top bit is set already
first_counter : counter_block tag_bytes ≡ tag_bytes
unfolding counter_block bytes_of
first_counter = refl

-- the first block of the key stream
key_stream : aes encryption_key tag_bytes ≡ hex 16 0x1551f2c1787e81deac9a99f139540ab5
unfolding bytes_of aes cipher rounds add_round_key mix_columns mix shift_rows sub_bytes key_expansion expand temp power sum sbox affine inverse powers gmul remainder remainder_n times_x clmul clmul_n ◌⊕◌
key_stream = refl

-- the tag of the definition is that tag
tag_is : tag key nonce ad text ≡ tag_bytes
tag_is =
    tag_by_keys key nonce ad text authentication_key encryption_key_lem ∙ ap (λ s. aes encryption_key (tag_block nonce s)) hash
    ∙ ap (aes encryption_key) masked_hash ∙ encrypted_hash

added : xor_bytes text (hex 16 0x1551f2c1787e81deac9a99f139540ab5) ≡ hex 11 0x5d349ead175ef6b1def6fd
unfolding xor_bytes bytes_of ◌⊕◌
added = refl

-- the text plus the key stream, and the tag behind it
ciphertext : mask key nonce tag_bytes text ≡ hex 11 0x5d349ead175ef6b1def6fd
unfolding mask masked stream bytes_of
ciphertext =
    ap₂ (λ (c b : List ℕ). xor_bytes text (stream next_counter (aes c) 1 b)) encryption_key_lem first_counter
    ∙ ap (λ (x : List ℕ). xor_bytes text (x ++ [])) key_stream ∙ added

worked : sealed key nonce ad text ≡ hex 27 0x5d349ead175ef6b1def6fd4fbcdeb7e4793f4a1d7e4faa70100af1
unfolding sealed_by bytes_of
worked = ap (λ (t : List ℕ). mask key nonce t text ++ t) tag_is ∙ ap (λ (x : List ℕ). x ++ tag_bytes) ciphertext
