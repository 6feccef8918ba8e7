-- A run as a sum of products by powers of H: the machine's steps multiplied out. Assumes nothing.
use mathlib.Core.Path.{◌≡◌, sym, ap, ◌∙◌}
use mathlib.Core.List.{List, [], ◌∷◌}
use Prim.Native.Nat.{ℕ, suc}
use lib.ListN.{length}
use Rattle.octets.specs.Xor.{◌⊕◌}
use Rattle.gf2.specs.Polyval.{dot}
use Rattle.octets.proofs.Xor.{⊕-zero, ⊕-assoc}
use Rattle.gf2.proofs.Dot.{dot_comm, dot_assoc, ⊕-dot}
use Rattle.rfc8452.specs.Machine.{step, run}
use Rattle.feeding.proofs.Powers.{nth, nth_next}

-- each block times the power that the number of blocks behind it asks
unfoldable pub dots : (h : ℕ) → List ℕ → ℕ
dots h [] = 0
dots h (x ∷ xs) = dot x (nth h h (length xs)) ⊕ dots h xs

-- a step more moves every power up by one
pub next_power : (h s n : ℕ) → dot (dot s h) (nth h h n) ≡ dot s (nth h h (suc n))
next_power h s n = dot_assoc s h (nth h h n) ∙ ap (dot s) (dot_comm h (nth h h n) ∙ sym (nth_next h h n))

pub run_dots : (h s x : ℕ) (xs : List ℕ) → run h s (x ∷ xs) ≡ dots h ((s ⊕ x) ∷ xs)
unfolding run step dots nth
run_dots h s x [] = sym (⊕-zero (dot (s ⊕ x) h))
run_dots h s x (y ∷ ys) =
    let t : ℕ = dot (s ⊕ x) h in
    let n : ℕ = length ys in
    run_dots h t y ys ∙ ap (λ z. z ⊕ dots h ys) (⊕-dot t y (nth h h n)) ∙ ⊕-assoc (dot t (nth h h n)) (dot y (nth h h n)) (dots h ys)
    ∙ ap (λ z. z ⊕ (dot y (nth h h n) ⊕ dots h ys)) (next_power h (s ⊕ x) n)
