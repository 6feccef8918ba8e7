-- What a table of values says of each value. Assumes nothing.
use mathlib.Core.Path.{◌≡◌, refl, sym, ap, ◌∙◌}
use mathlib.Core.List.{List, ◌∷◌, map}
use Prim.Native.Nat.{ℕ, zero, suc, ◌<◌}
use native.Mathlib.Nat.{not-suc-le-zero, le_of_suc-le-suc}
use lib.ListN.{length, get_or}
use Rattle.fips197.specs.Table.{tab}

pub tab_length : (n : ℕ) (f : ℕ → ℕ) → length (tab n f) ≡ n
tab_length zero f = refl
tab_length (suc n) f = ap suc (tab_length n (λ i. f (suc i)))

pub tab_get_d : (n : ℕ) (f : ℕ → ℕ) (i : ℕ) → i < n → get_or (tab n f) i 0 ≡ f i
tab_get_d zero f i h = absurd (not-suc-le-zero h)
tab_get_d (suc n) f zero h = refl
tab_get_d (suc n) f (suc i) h = tab_get_d n (λ i. f (suc i)) i (le_of_suc-le-suc h)

-- two functions with one table agree: how a law of every byte is computed once
pub agree : (n : ℕ) (f g : ℕ → ℕ) → tab n f ≡ tab n g → (i : ℕ) → i < n → f i ≡ g i
agree n f g e i h = sym (tab_get_d n f i h) ∙ ap (λ (l : List ℕ). get_or l i 0) e ∙ tab_get_d n g i h

pub map_tab : (n : ℕ) (f g : ℕ → ℕ) → map f (tab n g) ≡ tab n (λ i. f (g i))
map_tab zero f g = refl
map_tab (suc n) f g = ap (λ (l : List ℕ). f (g zero) ∷ l) (map_tab n f (λ i. g (suc i)))
