-- The state of the halving loop, and its one counted dot. Assumes nothing.
use Rattle.std.specs.Prelude.{ℕ, ◌/◌, ◌%◌, cond, ◌==◌, nat_lt}
use Rattle.gf2.specs.Polyval.{dot}
use Rattle.field.specs.Element.{value, element}
use Rattle.field.specs.Rf.{after}
use Rattle.feeding.specs.Times.{times, dots_of}
use Rattle.join.specs.declared.halving.Halving.{Halving}
use Rattle.join.specs.declared.halving.Multiplied.{Multiplied}

abbrev pub multiplied_by : (h n a : ℕ) → Multiplied
multiplied_by h n a = record { product = element (times h n a); dots = dots_of n }

-- one dot more: the product and the count move together
abbrev pub multiplied : Multiplied → (h : ℕ) → Multiplied
multiplied held h = record { product = element (dot (value held.product) h); dots = after 1 held.dots }

-- the lowest digit of `left` chooses whether the square is multiplied in
abbrev pub chosen : Halving → Halving
chosen s =
    cond (s.left % 2 == 1)
    (record { product = element (dot (value s.product) (value s.square)); square = s.square; left = s.left; dots = after 1 s.dots })
    s

-- and the next digit has the next square, if there is one
abbrev pub halved : Halving → Halving
halved s =
    cond (nat_lt 1 s.left)
    (record { product = s.product; square = element (dot (value s.square) (value s.square)); left = s.left / 2; dots = after 1 s.dots })
    (record { product = s.product; square = s.square; left = 0; dots = s.dots })
