-- A state of FIPS 197, which is a list of 16 bytes, as the four words that hold it. Assumes nothing.
use Rattle.std.specs.Prelude.{List, ◌++◌, ℕ, get_or}
use Rattle.octets.specs.Numbers.{bytes_of}

-- row r of a column
abbrev pub column_row : ℕ → ℕ → ℕ
column_row r x = get_or (bytes_of 4 x) r 0

-- the columns, one after the other
abbrev pub state_of : List ℕ → List ℕ
state_of s = bytes_of 4 (get_or s 0 0) ++ (bytes_of 4 (get_or s 1 0) ++ (bytes_of 4 (get_or s 2 0) ++ bytes_of 4 (get_or s 3 0)))
