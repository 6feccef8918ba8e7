-- A part of a window moved to its front. Assumes nothing.
use Rattle.std.specs.Prelude.{ℕ, ◌-◌, ◌≡◌, Bool, cond, ◌&&◌, List, ◌++◌, length, take, drop, leb}

-- from..to is a part of the window
abbrev pub inside : (from to : ℕ) → List ℕ → Bool
inside from to w = leb from to && leb to (length w)

-- the promise of `slide`: the part at the front and its length, and what was behind as many bytes as before; else no change and 0
pub record Slid (w : List ℕ) (from to : ℕ) (w' : List ℕ) (r : ℕ) : Type 0 where
  pub window_is : w' ≡ cond (inside from to w) (take (to - from) (drop from w) ++ drop (to - from) w) w
  pub held_is : r ≡ cond (inside from to w) (to - from) 0
