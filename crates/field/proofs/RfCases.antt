-- An element's words, and the R/F formulas on small words, computed (document 01, port order 5 and "Cost"). Assumes nothing.
use Rattle.std.proofs.Common.{◌≡◌, ℕ, ◌+◌, ◌-◌, ◌*◌, ◌^◌, [], ◌∷◌, refl}
use Rattle.octets.specs.Xor.{◌⊕◌}
use Rattle.gf2.specs.Carryless.{clmul, clmul_n}
use Rattle.field.specs.Element.{value, element}
use Rattle.field.specs.Rf.{low, high, p1, companion_of, r_part, f_part, rf_reduce, after, counted, plus_product, rf_add, rf_reduced, rf_lone, Term, total, r_of, f_of, rf_group}

-- a number of two words, the low one first
abbrev words : (lo hi : ℕ) → ℕ
words lo hi = lo + hi * 2 ^ 64

pub element_words : element (words (2 ^ 64 - 1) (2 ^ 64 - 2) + 3 * 2 ^ 128) ≡ record { lo = 2 ^ 64 - 1; hi = 2 ^ 64 - 2 }
element_words = refl

pub words_value : value (record { lo = 1; hi = 2 }) ≡ 0x20000000000000001
words_value = refl

pub low_high : (low (words (2 ^ 64 - 1) 2) ≡ 2 ^ 64 - 1) × (high (words (2 ^ 64 - 1) 2) ≡ 2) × (p1 ≡ 2 ^ 63 + 2 ^ 62 + 2 ^ 57)
low_high = (refl, refl, refl)

-- "D = swap(H) + H0·P1"
pub d_words : companion_of (words 3 5) ≡ words 0x4600000000000005 2
unfolding companion_of clmul clmul_n ◌⊕◌
d_words = refl

-- "R = M0·D1 + M1·H1; F = M0·D0 + M1·H0", on a D that belongs to no H
abbrev one : Term
one = record { m = words 1 2; h = words 4 8; d = words 0x10 0x20 }

abbrev two : Term
two = record { m = words 2 1; h = words 0x40 0x80; d = words 0x100 0x200 }

pub r_cases : (r_of one ≡ 0x30) × (r_of two ≡ 0x480)
unfolding r_part clmul clmul_n ◌⊕◌
r_cases = (refl, refl)

pub f_cases : (f_of one ≡ 0x18) × (f_of two ≡ 0x240)
unfolding f_part clmul clmul_n ◌⊕◌
f_cases = (refl, refl)

-- "R + F1 + x^64·F0 + P1·F0"
pub reduced_words : rf_reduce 8 (words 3 5) ≡ words 0x460000000000000d 2
unfolding rf_reduce clmul clmul_n ◌⊕◌
reduced_words = refl

-- the count is a word, and an element keeps its count
pub count_wraps : (after 3 5 ≡ 8) × (after 1 (2 ^ 64 - 1) ≡ 0)
count_wraps = (refl, refl)

pub counted_words : counted (words 1 2) 7 ≡ record { element = record { lo = 1; hi = 2 }; multiplies = 7 }
counted_words = refl

pub one_product : plus_product (counted 8 7) 3 3 ≡ counted 0xd 8
unfolding clmul clmul_n ◌⊕◌
one_product = refl

-- a block adds its R and F to those held, at 4; the reduction is 1 more: 5 on a lone block, 4 n + 1 on n blocks
pub block_added : rf_add one.m one.h one.d (record { r = element 1; f = element 2; multiplies = 7 }) ≡ record { r = element 0x31; f = element 0x1a; multiplies = 11 }
unfolding rf_add r_part f_part clmul clmul_n ◌⊕◌
block_added = refl

pub sum_reduced : rf_reduced (record { r = element 8; f = element (words 3 5); multiplies = 7 }) ≡ counted (words 0x460000000000000d 2) 8
unfolding rf_reduce clmul clmul_n ◌⊕◌
sum_reduced = refl

pub lone_block : rf_lone one.m one.h one.d 7 ≡ counted (rf_reduce 0x30 0x18) 12
unfolding r_part f_part clmul clmul_n ◌⊕◌
lone_block = refl

pub two_blocks : rf_group (one ∷ two ∷ []) 7 ≡ counted (rf_reduce 0x4b0 0x258) 16
unfolding rf_group total r_part f_part clmul clmul_n ◌⊕◌
two_blocks = refl

pub no_blocks : (f : Term → ℕ) → total f [] ≡ 0
unfolding total
no_blocks f = refl
