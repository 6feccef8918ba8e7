-- Parts of byte strings. Assumes nothing.
use Rattle.std.specs.Prelude.{ℕ, ◌-◌, cond, ◌&&◌, List, [], leb, length, take, drop}

-- the part of s from one place to another; nothing where there is no such part
abbrev pub part_of : (s : List ℕ) (from to : ℕ) → List ℕ
part_of s from to = cond (leb from to && leb to (length s)) (take (to - from) (drop from s)) []
