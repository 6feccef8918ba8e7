-- How the code holds a state, computed: the columns one after the other, row 0 of each in the lowest byte. Assumes nothing.
use mathlib.Core.Path.{◌≡◌, refl}
use mathlib.Core.List.{[], ◌∷◌}
use Rattle.octets.specs.Numbers.{bytes_of}
use Rattle.aes.specs.State.{column_row, state_of}

pub columns_in_order : state_of (0x03020100 ∷ 0x07060504 ∷ 0x0b0a0908 ∷ 0x0f0e0d0c ∷ [])
    ≡ 0 ∷ 1 ∷ 2 ∷ 3 ∷ 4 ∷ 5 ∷ 6 ∷ 7 ∷ 8 ∷ 9 ∷ 10 ∷ 11 ∷ 12 ∷ 13 ∷ 14 ∷ 15 ∷ []
unfolding bytes_of
columns_in_order = refl

pub rows_in_order : column_row 0 0x07060504 ∷ column_row 1 0x07060504 ∷ column_row 2 0x07060504 ∷ column_row 3 0x07060504 ∷ [] ≡ 4 ∷ 5 ∷ 6 ∷ 7 ∷ []
unfolding bytes_of
rows_in_order = refl
