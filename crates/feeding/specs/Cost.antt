-- What the R/F route spends in each call, in counted multiplies: document 01's numbers ("Cost"). Assumes nothing.
use Rattle.std.specs.Prelude.{ℕ, ◌+◌, ◌*◌, ◌/◌, ◌%◌}

-- "The R/F route spends 19 on key expansion"
abbrev pub start_cost : ℕ
start_cost = 19

-- "For n blocks in one whole-block or padded call, the filled one included: 17·floor(n/4) + 5·(n mod 4)"
abbrev pub blocks_cost : (n : ℕ) → ℕ
blocks_cost n = 17 * (n / 4) + 5 * (n % 4)

-- "Piece feed and finish spend exactly 5 for each block completed"
abbrev pub lones_cost : (n : ℕ) → ℕ
lones_cost n = 5 * n
