-- The first vector of RFC 8452 appendix C.2, with a key of 32 bytes: both derived keys and what is sealed of an empty text, computed from the
-- definitions. Assumes nothing.
use Prim.Native.Nat.{ℕ}
use mathlib.Core.Path.{◌≡◌, refl, ap, ap₂, ◌∙◌}
use mathlib.Core.List.{List, [], ◌++◌}
use Rattle.octets.specs.Xor.{◌⊕◌}
use Rattle.octets.specs.Numbers.{number, bytes_of}
use Rattle.octets.specs.Strings.{xor_bytes}
use Rattle.gf2.specs.Carryless.{clmul_n, clmul}
use Rattle.gf2.specs.Remainder.{times_x, remainder_n, remainder}
use Rattle.gf2.specs.Polyval.{modulus, x_inv128, dot}
use Rattle.fips197.specs.Field.{gmul, powers, inverse}
use Rattle.fips197.specs.Sbox.{affine, sbox}
use Rattle.fips197.specs.Cipher.{sub_bytes, shift_rows, mix, mix_columns, add_round_key, rounds, cipher}
use Rattle.fips197.specs.KeyExpansion.{sum, power, temp, expand, key_expansion}
use Rattle.fips197.specs.Aes.{aes}
use Rattle.fips197.proofs.Cases.{hex}
use Rattle.modes.specs.Stream.{stream, masked}
use Rattle.modes.specs.Mode.{sealed_by}
use Rattle.rfc8452.specs.Machine.{step, run}
use Rattle.rfc8452.specs.Blocks.{blocks_n, blocks}
use Rattle.rfc8452.specs.Keys.{hash_key, cipher_key}
use Rattle.rfc8452.specs.Tag.{hashed, tag_block}
use Rattle.rfc8452.specs.Siv.{mask, tag, sealed}
use Rattle.rfc8452_examples.specs.Examples.{long_key, long_key_nonce}
use Rattle.rfc8452_examples.proofs.Steps.{first_halves, tag_by_keys}

-- the blocks of the numbers 0 to 5, encrypted: three to a declaration, which has a limit of steps
blocks_from_0 : (aes long_key (bytes_of 4 0 ++ long_key_nonce) ≡ hex 16 0xb5d3c529dfafac430384a63b046e999e)
    × (aes long_key (bytes_of 4 1 ++ long_key_nonce) ≡ hex 16 0x136d2d11be284d7fd498b142a2995a5a) × (aes long_key (bytes_of 4 2 ++ long_key_nonce) ≡ hex 16 0xb914f4742be9e1d7641d397a9a0ffa64)
unfolding bytes_of aes cipher rounds add_round_key mix_columns mix shift_rows sub_bytes key_expansion expand temp power sum sbox affine inverse powers gmul remainder remainder_n times_x clmul clmul_n ◌⊕◌
blocks_from_0 = (refl, refl, refl)

blocks_from_3 : (aes long_key (bytes_of 4 3 ++ long_key_nonce) ≡ hex 16 0xa2f84addbf96dec3fcdefbceafd2a5f3)
    × (aes long_key (bytes_of 4 4 ++ long_key_nonce) ≡ hex 16 0x456e3c6c05ecc15709d8894632480faf) × (aes long_key (bytes_of 4 5 ++ long_key_nonce) ≡ hex 16 0xcdbf0700fedad22273098dd2eaa268b3)
unfolding bytes_of aes cipher rounds add_round_key mix_columns mix shift_rows sub_bytes key_expansion expand temp power sum sbox affine inverse powers gmul remainder remainder_n times_x clmul clmul_n ◌⊕◌
blocks_from_3 = (refl, refl, refl)

-- both keys: that of the cipher has four parts
authentication_key : hash_key long_key long_key_nonce ≡ hex 16 0xb5d3c529dfafac43136d2d11be284d7f
unfolding hash_key bytes_of
authentication_key = first_halves blocks_from_0.0 blocks_from_0.1

abbrev encryption_key : List ℕ
encryption_key = hex 32 0xb914f4742be9e1d7a2f84addbf96dec3456e3c6c05ecc157cdbf0700fedad222

encryption_key_lem : cipher_key long_key long_key_nonce ≡ encryption_key
unfolding cipher_key bytes_of
encryption_key_lem = ap₂ ◌++◌ (first_halves blocks_from_0.2 blocks_from_3.0) (first_halves blocks_from_3.1 blocks_from_3.2)

-- nothing hashes to zero, and the nonce is encrypted
hash : tag_block long_key_nonce (hashed (number (hex 16 0xb5d3c529dfafac43136d2d11be284d7f)) [] []) ≡ hex 16 0x03000000000000000000000000000000
unfolding tag_block xor_bytes hashed run step dot modulus x_inv128 blocks blocks_n number bytes_of remainder remainder_n times_x clmul clmul_n ◌⊕◌
hash = refl

encrypted_hash : aes encryption_key (hex 16 0x03000000000000000000000000000000) ≡ hex 16 0x07f5f4169bbf55a8400cd47ea6fd400f
unfolding bytes_of aes cipher rounds add_round_key mix_columns mix shift_rows sub_bytes key_expansion expand temp power sum sbox affine inverse powers gmul remainder remainder_n times_x clmul clmul_n ◌⊕◌
encrypted_hash = refl

tag_is : tag long_key long_key_nonce [] [] ≡ hex 16 0x07f5f4169bbf55a8400cd47ea6fd400f
tag_is = tag_by_keys long_key long_key_nonce [] [] authentication_key encryption_key_lem ∙ ap (aes encryption_key) hash ∙ encrypted_hash

pub long_key_lem : sealed long_key long_key_nonce [] [] ≡ hex 16 0x07f5f4169bbf55a8400cd47ea6fd400f
unfolding sealed_by mask masked xor_bytes
long_key_lem = tag_is
