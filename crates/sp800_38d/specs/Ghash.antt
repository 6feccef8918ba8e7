-- GHASH as NIST SP 800-38D states it. A block of 128 bits is the number whose most significant digit is its leftmost bit, x_0. Assumes nothing.
use Rattle.std.specs.Prelude.{ℕ, zero, suc, ◌+◌, ◌-◌, ◌*◌, ◌/◌, ◌%◌, ◌^◌, List, [], ◌∷◌, ◌++◌, reverse, length, take, drop, replicate}
use Rattle.octets.specs.Xor.{◌⊕◌}
use Rattle.octets.specs.Numbers.{number}

-- section 6.3: R is 11100001 and 120 zeros
unfoldable pub R : ℕ
R = 0xe1 * 2 ^ 120

-- algorithm 1, step 3: V_{i+1} is V_i >> 1, ⊕ R where the rightmost bit of V_i is 1
unfoldable pub shifted : ℕ → ℕ
shifted v = (v % 2 * R) ⊕ (v / 2)

-- the same step for Z_{i+1}: Z_i, ⊕ V_i where x_i is 1. i counts the bits of X to go, so that the next one is digit i - 1.
unfoldable pub product_n : (i x z v : ℕ) → ℕ
product_n zero x z v = z
product_n (suc i) x z v = product_n i x ((x / 2 ^ i % 2 * v) ⊕ z) (shifted v)

infixl 70 ◌•◌
-- X • Y: Z_0 is zero, V_0 is Y
unfoldable pub ◌•◌ : ℕ → ℕ → ℕ
x • y = product_n 128 x 0 y

-- algorithm 2: Y_0 is zero, and Y_i is (Y_{i-1} ⊕ X_i) • H
unfoldable pub ghash_from : (h y : ℕ) → List ℕ → ℕ
ghash_from h y [] = y
ghash_from h y (x ∷ xs) = ghash_from h ((y ⊕ x) • h) xs

abbrev pub ghash_of : (h : ℕ) → List ℕ → ℕ
ghash_of h xs = ghash_from h 0 xs

-- bytes as such a number: the first byte is the leftmost
abbrev pub bit_string : List ℕ → ℕ
bit_string s = number (reverse s)

-- the blocks of a string, the last one filled with zeros on its right
unfoldable pub bit_blocks_n : ℕ → List ℕ → List ℕ
bit_blocks_n zero s = []
bit_blocks_n (suc n) s = bit_string (take 16 s ++ replicate (16 - length (take 16 s)) 0) ∷ bit_blocks_n n (drop 16 s)

unfoldable pub bit_blocks : List ℕ → List ℕ
bit_blocks s = bit_blocks_n ((length s + 15) / 16) s
