-- Bytes over a buffer, at a place and at the front: what a call leaves in a lent buffer is said by these. Assumes nothing.
use Rattle.std.specs.Prelude.{ℕ, ◌+◌, ◌≡◌, Bool, cond, List, ◌++◌, leb, length, take, drop}

-- s in place of as many bytes of out, from the place at on
abbrev pub placed : (out : List ℕ) (at : ℕ) (s : List ℕ) → List ℕ
placed out at s = take at out ++ (s ++ drop (at + length s) out)

-- s over the front of out: `placed` at 0
abbrev pub over : (s out : List ℕ) → List ℕ
over s out = s ++ drop (length s) out

-- s stands at the place at of out, which is else as it was, and the next place is behind it
pub record Wrote (out : List ℕ) (at : ℕ) (s out' : List ℕ) (next : ℕ) : Type 0 where
  pub out_is : out' ≡ placed out at s
  pub next_is : next ≡ at + length s

-- out has room for s there
abbrev pub has_room : (out : List ℕ) (at : ℕ) (s : List ℕ) → Bool
has_room out at s = leb (at + length s) (length out)

-- the promise of `put`: s at its place, or out as it was and the same place
pub record Puts (out : List ℕ) (at : ℕ) (s out' : List ℕ) (next : ℕ) : Type 0 where
  pub out_is : out' ≡ cond (has_room out at s) (placed out at s) out
  pub next_is : next ≡ cond (has_room out at s) (at + length s) at
