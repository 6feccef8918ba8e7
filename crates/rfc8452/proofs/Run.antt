-- The machine's laws: a run over two lists, and that it stays below 2^128. Assumes nothing.
use mathlib.Core.Path.{◌≡◌, refl}
use mathlib.Core.List.{List, [], ◌∷◌, ◌++◌}
use Prim.Native.Nat.{ℕ, ◌^◌, ◌<◌}
use Rattle.octets.specs.Xor.{◌⊕◌}
use Rattle.gf2.proofs.Dot.{dot_lt}
use Rattle.rfc8452.specs.Machine.{step, run}

pub step_lt : (h s x : ℕ) → step h s x < 2 ^ 128
unfolding step
step_lt h s x = dot_lt (s ⊕ x) h

pub run_lt : (h s : ℕ) (xs : List ℕ) → s < 2 ^ 128 → run h s xs < 2 ^ 128
unfolding run
run_lt h s [] l = l
run_lt h s (x ∷ xs) l = run_lt h (step h s x) xs (step_lt h s x)

-- first the blocks of xs, then those of ys
pub run_++ : (h s : ℕ) (xs ys : List ℕ) → run h s (xs ++ ys) ≡ run h (run h s xs) ys
unfolding run
run_++ h s [] ys = refl
run_++ h s (x ∷ xs) ys = run_++ h (step h s x) xs ys
