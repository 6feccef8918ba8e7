-- The numbers of document 01's "Cost", and the dots of a join, at small counts. Assumes nothing.
use mathlib.Core.Path.{◌≡◌, refl}
use Prim.Native.Nat.{ℕ, ◌+◌, ◌-◌, ◌^◌}
use Rattle.gf2.specs.Polyval.{dot}
use Rattle.feeding.specs.Cost.{start_cost, blocks_cost, lones_cost}
use Rattle.feeding.specs.Times.{times, over_digits, ones, width, dots_of}

-- "The R/F route spends 19 on key expansion"
pub nineteen : start_cost ≡ 19
nineteen = refl

-- "5 on a lone block, 17 on a group of four"
pub blocks_cost_lem : (blocks_cost 0 ≡ 0) × (blocks_cost 1 ≡ 5) × (blocks_cost 3 ≡ 15) × (blocks_cost 4 ≡ 17) × (blocks_cost 5 ≡ 22) × (blocks_cost 8 ≡ 34)
blocks_cost_lem = (refl, refl, refl, refl, refl, refl)

pub lones_cost_lem : (lones_cost 0 ≡ 0) × (lones_cost 1 ≡ 5) × (lones_cost 4 ≡ 20)
lones_cost_lem = (refl, refl, refl)

-- "multiplied by H through dot n times"
pub times_three : (h a : ℕ) → (times h 0 a ≡ a) × (times h 1 a ≡ dot a h) × (times h 3 a ≡ dot (dot (dot a h) h) h)
unfolding times
times_three h a = (refl, refl, refl)

-- the digits of 6 are 110: a function's sum over them, lowest first, as many as are asked
pub six_digits : (f : ℕ → ℕ) → (over_digits f 0 6 ≡ 0) × (over_digits f 1 6 ≡ f 0 + 0) × (over_digits f 6 6 ≡ f 0 + (f 1 + (f 1 + 0)))
unfolding over_digits
six_digits f = (refl, refl, refl)

pub ones_counted : (ones 0 ≡ 0) × (ones 1 ≡ 1) × (ones 6 ≡ 2) × (ones 7 ≡ 3) × (ones 8 ≡ 1)
unfolding ones over_digits
ones_counted = (refl, refl, refl, refl, refl)

pub digits_counted : (width 0 ≡ 0) × (width 1 ≡ 1) × (width 6 ≡ 3) × (width 7 ≡ 3) × (width 8 ≡ 4)
unfolding width over_digits
digits_counted = (refl, refl, refl, refl, refl)

-- halving: none for no block, and the last squaring is not made; the most that a count of 64 bits can take
pub small_dots : (dots_of 0 ≡ 0) × (dots_of 1 ≡ 1) × (dots_of 2 ≡ 2) × (dots_of 3 ≡ 3) × (dots_of 4 ≡ 3) × (dots_of 7 ≡ 5) × (dots_of 8 ≡ 4)
unfolding dots_of ones width over_digits
small_dots = (refl, refl, refl, refl, refl, refl, refl)

pub most_dots : dots_of (2 ^ 64 - 1) ≡ 127
unfolding dots_of ones width over_digits
most_dots = refl
