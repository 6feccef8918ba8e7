-- A text of this page's own as the bytes that are written. Assumes nothing.
use Rattle.std.specs.Prelude.{ℕ, List, [], ◌∷◌}
use Prim.Native.Char.{code}
use Prim.Native.String.{String, [] as no_more, ◌∷◌ as ◌then◌}

-- the codes of a text's characters
abbrev pub ascii : String → List ℕ
ascii no_more = []
ascii (c then s) = code c ∷ ascii s
