-- Arithmetic in GF(2^8), FIPS 197 section 4. A byte stands for the polynomial over GF(2) whose coefficient of x^i is its bit i; the sum,
-- the product and the remainder of such polynomials are gf2's. Assumes nothing.
use Rattle.std.specs.Prelude.{ℕ, zero, suc}
use Rattle.gf2.specs.Carryless.{clmul}
use Rattle.gf2.specs.Remainder.{remainder}

-- 4.2: the product of two bytes, modulo x^8 + x^4 + x^3 + x + 1
unfoldable pub gmul : ℕ → ℕ → ℕ
gmul a b = remainder 0x11b 8 (clmul a b)

-- b · b^2 · b^4 · .., of n factors
unfoldable pub powers : ℕ → ℕ → ℕ
powers zero b = 1
powers (suc n) b = gmul b (powers n (gmul b b))

-- 4.4: the inverse is the power 254 = 2 + 4 + .. + 128, and so zero for zero
unfoldable pub inverse : ℕ → ℕ
inverse b = powers 7 (gmul b b)
