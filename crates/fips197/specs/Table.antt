-- A function on small numbers as the table of its values. Assumes nothing.
use Rattle.std.specs.Prelude.{List, [], ◌∷◌, ℕ, zero, suc}

-- f 0, f 1, .., n of them
abbrev pub tab : ℕ → (ℕ → ℕ) → List ℕ
tab zero f = []
tab (suc n) f = f zero ∷ tab n (λ i. f (suc i))
