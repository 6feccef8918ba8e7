-- Each step of the cipher and of the key expansion at the values that FIPS 197 prints for it in appendices A and B: antt computes them, each in
-- a part of a second, so that a wrong step falls by a case of its own. Whole blocks are in fips197_examples. Assumes nothing.
use mathlib.Core.Path.{◌≡◌, refl, ap}
use mathlib.Core.List.{List, [], ◌∷◌, reverse}
use Prim.Native.Nat.{ℕ}
use lib.Dec.{eqb}
use lib.ListN.{length}
use Rattle.octets.specs.Xor.{◌⊕◌}
use Rattle.octets.specs.Numbers.{bytes_of}
use Rattle.gf2.specs.Carryless.{clmul_n, clmul}
use Rattle.gf2.specs.Remainder.{times_x, remainder_n, remainder}
use Rattle.fips197.specs.Table.{tab}
use Rattle.fips197.specs.Field.{gmul, powers, inverse}
use Rattle.fips197.specs.Sbox.{bit, bits, affine, sbox}
use Rattle.fips197.specs.Cipher.{cell, sub_bytes, shift_rows, mix, mix_column, mix_columns, add_round_key, rounds, cipher}
use Rattle.fips197.specs.KeyExpansion.{word, sum, rot_word, sub_word, power, rcon, pick, temp, expand, key_expansion}
use Rattle.fips197.specs.Aes.{aes}

-- n bytes as the document prints them
abbrev pub hex : (n bytes : ℕ) → List ℕ
hex n bytes = reverse (bytes_of n bytes)

-- 4.2: {57} times {83}
pub product : gmul 0x57 0x83 ≡ 0xc1
unfolding gmul remainder remainder_n times_x clmul clmul_n ◌⊕◌
product = refl

-- {03} times its square {05}
pub two_factors : powers 2 0x03 ≡ 0x0f
unfolding powers gmul remainder remainder_n times_x clmul clmul_n ◌⊕◌
two_factors = refl

-- {53} times {ca} is one
pub inverse_of_53 : inverse 0x53 ≡ 0xca
unfolding inverse powers gmul remainder remainder_n times_x clmul clmul_n ◌⊕◌
inverse_of_53 = refl

-- a byte is made of its bits
pub bits_back : bits 8 (bit 0x63) ≡ 0x63
bits_back = refl

-- 5.1.1: the S-box of {53}
pub s_box : sbox 0x53 ≡ 0xed
unfolding sbox affine inverse powers gmul remainder remainder_n times_x clmul clmul_n ◌⊕◌
s_box = refl

-- a row and a column are counted modulo 4: row 1 of column 2 stands at 9
pub row_and_column : cell (tab 16 (λ i. i)) 5 6 ≡ 9
row_and_column = refl

-- appendix B: the input and round key 0, then round 1, step by step
pub key_added : add_round_key (hex 16 0x3243f6a8885a308d313198a2e0370734) (hex 16 0x2b7e151628aed2a6abf7158809cf4f3c) 0 ≡ hex 16 0x193de3bea0f4e22b9ac68d2ae9f84808
unfolding add_round_key bytes_of ◌⊕◌
key_added = refl

pub bytes_substituted : sub_bytes (hex 16 0x193de3bea0f4e22b9ac68d2ae9f84808) ≡ hex 16 0xd42711aee0bf98f1b8b45de51e415230
unfolding sub_bytes bytes_of sbox affine inverse powers gmul remainder remainder_n times_x clmul clmul_n ◌⊕◌
bytes_substituted = refl

pub rows_shifted : shift_rows (hex 16 0xd42711aee0bf98f1b8b45de51e415230) ≡ hex 16 0xd4bf5d30e0b452aeb84111f11e2798e5
unfolding shift_rows bytes_of
rows_shifted = refl

pub column_mixed : mix_column 0xd4 0xbf 0x5d 0x30 ≡ hex 4 0x046681e5
unfolding mix bytes_of gmul remainder remainder_n times_x clmul clmul_n ◌⊕◌
column_mixed = refl

pub columns_mixed : mix_columns (hex 16 0xd4bf5d30e0b452aeb84111f11e2798e5) ≡ hex 16 0x046681e5e0cb199a48f8d37a2806264c
unfolding mix_columns mix bytes_of gmul remainder remainder_n times_x clmul clmul_n ◌⊕◌
columns_mixed = refl

-- the whole of it, with round key 1 behind round key 0
pub first_round : rounds (hex 32 0x2b7e151628aed2a6abf7158809cf4f3ca0fafe1788542cb123a339392a6c7605) (hex 16 0x193de3bea0f4e22b9ac68d2ae9f84808) 1
    ≡ hex 16 0xa49c7ff2689f352b6b5bea43026a5049
unfolding rounds add_round_key mix_columns mix shift_rows sub_bytes bytes_of sbox affine inverse powers gmul remainder remainder_n times_x clmul clmul_n ◌⊕◌
first_round = refl

-- and its last two rounds, from round 8's mixed columns and with round keys 8 to 10: the last one mixes no columns
pub last_rounds : cipher 2 (hex 48 0xead27321b58dbad2312bf5607f8d292fac7766f319fadc2128d12941575c006ed014f9a8c9ee2589e13f0cc8b6630ca6) (hex 16 0x00512fd1b1c889ff54766dcdfa1b99ea)
    ≡ hex 16 0x3925841d02dc09fbdc118597196a0b32
unfolding cipher rounds add_round_key mix_columns mix shift_rows sub_bytes bytes_of sbox affine inverse powers gmul remainder remainder_n times_x clmul clmul_n ◌⊕◌
last_rounds = refl

-- word i stands at 4 i
pub third_word : word (tab 16 (λ i. i)) 2 ≡ 8 ∷ 9 ∷ 10 ∷ 11 ∷ []
third_word = refl

-- appendix A.1, the columns of i = 4: after RotWord, after SubWord, and after the sum with Rcon[1]
pub word_rotated : rot_word (hex 4 0x09cf4f3c) ≡ hex 4 0xcf4f3c09
unfolding bytes_of
word_rotated = refl

pub word_substituted : sub_word (hex 4 0xcf4f3c09) ≡ hex 4 0x8a84eb01
unfolding bytes_of sbox affine inverse powers gmul remainder remainder_n times_x clmul clmul_n ◌⊕◌
word_substituted = refl

pub first_temp : temp 4 4 (hex 4 0x09cf4f3c) ≡ hex 4 0x8b84eb01
unfolding temp sum power bytes_of sbox affine inverse powers gmul remainder remainder_n times_x clmul clmul_n ◌⊕◌
first_temp = refl

-- 5.2, the table of round constants: its first one, and the last three, of which two have overflowed
pub round_constants : (rcon 1 ≡ hex 4 0x01000000) × (rcon 8 ≡ hex 4 0x80000000) × (rcon 9 ≡ hex 4 0x1b000000) × (rcon 10 ≡ hex 4 0x36000000)
unfolding power bytes_of gmul remainder remainder_n times_x clmul clmul_n ◌⊕◌
round_constants = (refl, refl, refl, refl)

-- appendix A.1, w[0] to w[11]
pub expansion_128 : key_expansion 4 2 (hex 16 0x2b7e151628aed2a6abf7158809cf4f3c)
    ≡ hex 48 0x2b7e151628aed2a6abf7158809cf4f3ca0fafe1788542cb123a339392a6c7605f2c295f27a96b9435935807a7359f67f
unfolding key_expansion expand temp sum power bytes_of sbox affine inverse powers gmul remainder remainder_n times_x clmul clmul_n ◌⊕◌
expansion_128 = refl

-- appendix A.2, w[0] to w[11]: with six words no word but each sixth is substituted
pub expansion_192 : key_expansion 6 2 (hex 24 0x8e73b0f7da0e6452c810f32b809079e562f8ead2522c6b7b)
    ≡ hex 48 0x8e73b0f7da0e6452c810f32b809079e562f8ead2522c6b7bfe0c91f72402f5a5ec12068e6c827f6b0e7a95b95c56fec2
unfolding key_expansion expand temp sum power bytes_of sbox affine inverse powers gmul remainder remainder_n times_x clmul clmul_n ◌⊕◌
expansion_192 = refl

-- appendix A.3, w[0] to w[15]: with eight words w[12] is made from w[11] substituted
pub expansion_256 : key_expansion 8 3 (hex 32 0x603deb1015ca71be2b73aef0857d77811f352c073b6108d72d9810a30914dff4)
    ≡ hex 64 0x603deb1015ca71be2b73aef0857d77811f352c073b6108d72d9810a30914dff49ba354118e6925afa51a8b5f2067fcdea8b09c1a93d194cdbe49846eb75d5b9a
unfolding key_expansion expand temp sum power bytes_of sbox affine inverse powers gmul remainder remainder_n times_x clmul clmul_n ◌⊕◌
expansion_256 = refl

-- section 5: AES-128 has four words of key and ten rounds, AES-256 eight and fourteen
module _ (key block : List ℕ) where
  pub sixteen_byte_key : length key ≡ 16 → aes key block ≡ cipher 10 (key_expansion 4 10 key) block
  unfolding aes
  sixteen_byte_key long = ap (λ n. pick (eqb n 16) (cipher 10 (key_expansion 4 10 key) block) (cipher 14 (key_expansion 8 14 key) block)) long

  pub thirty_two_byte_key : length key ≡ 32 → aes key block ≡ cipher 14 (key_expansion 8 14 key) block
  unfolding aes
  thirty_two_byte_key long = ap (λ n. pick (eqb n 16) (cipher 10 (key_expansion 4 10 key) block) (cipher 14 (key_expansion 8 14 key) block)) long
