-- A product by halving: the square of H takes two factors at once. Assumes nothing.
use Rattle.std.proofs.Common.{◌≡◌, ℕ, zero, suc, ◌+◌, ◌/◌, ◌%◌, ◌^◌, ◌<◌, refl, ap, ◌∙◌, arith}
use Rattle.gf2.specs.Polyval.{dot}
use Rattle.gf2.proofs.Dot.{dot_assoc, dot_lt}
use Rattle.feeding.specs.Times.{times}

pub times_lt : (h n a : ℕ) → a < 2 ^ 128 → times h n a < 2 ^ 128
unfolding times
times_lt h zero a l = l
times_lt h (suc n) a l = times_lt h n (dot a h) (dot_lt a h)

double : (h n a : ℕ) → times h (n + n) a ≡ times (dot h h) n a
unfolding times
double h zero a = refl
double h (suc n) a =
    let e : suc n + suc n ≡ suc (suc (n + n)) = omega arith in
    ap (λ k. times h k a) e ∙ ap (times h (n + n)) (dot_assoc a h h) ∙ double h n (dot a (dot h h))

pub even : (h k a : ℕ) → k % 2 ≡ 0 → times h k a ≡ times (dot h h) (k / 2) a
even h k a e = let two : k ≡ k / 2 + k / 2 = omega arith in ap (λ m. times h m a) two ∙ double h (k / 2) a

pub odd : (h k a : ℕ) → k % 2 ≡ 1 → times h k a ≡ times (dot h h) (k / 2) (dot a h)
unfolding times
odd h k a e = let two : k ≡ suc (k / 2 + k / 2) = omega arith in ap (λ m. times h m a) two ∙ double h (k / 2) (dot a h)

pub once : (h a : ℕ) → times h 1 a ≡ dot a h
unfolding times
once h a = refl

pub never : (h a : ℕ) → times h 0 a ≡ a
unfolding times
never h a = refl
