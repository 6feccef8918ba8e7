-- A list whose every element is what a function makes of another's at its place is that one mapped. Assumes nothing.
use Rattle.std.proofs.Common.{◌≡◌, ℕ, suc, ◌<◌, List, [], ◌∷◌, length, get_or, map, refl, ap₂, arith}

pub mapped : (f : ℕ → ℕ) (xs ys : List ℕ) → length ys ≡ length xs → ((i : ℕ) → i < length xs → get_or ys i 0 ≡ f (get_or xs i 0)) → ys ≡ map f xs
mapped f [] [] e h = refl
mapped f [] (y ∷ ys) e h = absurd (omega (arith, e))
mapped f (x ∷ xs) [] e h = absurd (omega (arith, e))
mapped f (x ∷ xs) (y ∷ ys) e h = ap₂ ◌∷◌ (h 0 (omega arith)) (mapped f xs ys (omega (arith, e)) (λ i below. h (suc i) (omega (arith, below))))
