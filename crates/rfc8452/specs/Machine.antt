-- The simple machine: a key and one field element, one block a step. POLYVAL is its run (RFC 8452, section 3; document 01, "Field"). Assumes nothing.
use Rattle.std.specs.Prelude.{ℕ, List, [], ◌∷◌}
use Rattle.octets.specs.Xor.{◌⊕◌}
use Rattle.gf2.specs.Polyval.{dot}

-- "for each block X, S becomes dot(S + X, H)"
unfoldable pub step : (h s x : ℕ) → ℕ
step h s x = dot (s ⊕ x) h

-- the element after a list of blocks
unfoldable pub run : (h s : ℕ) → List ℕ → ℕ
run h s [] = s
run h s (x ∷ xs) = run h (step h s x) xs

-- "S starts at zero"
abbrev pub polyval : (h : ℕ) → List ℕ → ℕ
polyval h xs = run h 0 xs
