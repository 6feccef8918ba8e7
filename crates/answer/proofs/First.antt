-- The laws of `first`: what it passes over, what decides it, and that 0 says that nothing refuses. Assumes nothing.
use mathlib.Core.Path.{◌≡◌, refl, ◌∙◌}
use mathlib.Core.Bool.{Bool, true, false, cond}
use mathlib.Core.List.{List, [], ◌∷◌, ◌++◌}
use Prim.Native.Nat.{ℕ, ◌≤◌, ◌<◌}
use native.Mathlib.Omega.{arith}
use borrow.Author.Tests.{eq-eqb, ne_eqb, eqb-true, eqb-false}
use lib.Dec.{eqb}
use Rattle.answer.specs.First.{Refusal, ◌⇒◌, first, ◌then◌}

-- none of the tests holds
unfoldable pub Passed : List Refusal → Type 0
Passed [] = Unit {0}
Passed (r ∷ rs) = (r.test ≡ false) × Passed rs

-- each number says something: none is 0, which means done
unfoldable pub Told : List Refusal → Type 0
Told [] = Unit {0}
Told (r ∷ rs) = (0 < r.number) × Told rs

-- tests that do not hold are passed over
pub passed_over : (rs ts : List Refusal) → Passed rs → first (rs ++ ts) ≡ first ts
unfolding Passed
passed_over [] ts p = refl
passed_over (r ∷ rs) ts (p, ps) = (λ i. cond (p i) r.number (first (rs ++ ts))) ∙ passed_over rs ts ps

-- the first test that holds decides, whatever stands after it
pub first_decides : (rs : List Refusal) (n : ℕ) (ts : List Refusal) → Passed rs → first (rs ++ (true ⇒ n ∷ ts)) ≡ n
first_decides rs n ts = passed_over rs (true ⇒ n ∷ ts)

-- where no test holds the answer is 0
pub none_refuses : (rs : List Refusal) → Passed rs → first rs ≡ 0
unfolding Passed
none_refuses [] p = refl
none_refuses (r ∷ rs) (p, ps) = (λ i. cond (p i) r.number (first rs)) ∙ none_refuses rs ps

refused_or_passed : (t : Bool) (n m : ℕ) → 0 < n → cond t n m ≡ 0 → (t ≡ false) × (m ≡ 0)
refused_or_passed true n m l e = absurd (omega arith)
refused_or_passed false n m l e = (refl, e)

-- and only there: an answer of 0 says that no test holds
pub all_passed : (rs : List Refusal) → Told rs → first rs ≡ 0 → Passed rs
unfolding Passed Told
all_passed [] t e = tt
all_passed (r ∷ rs) (t, ts) e =
    let both = refused_or_passed r.test r.number (first rs) t e in
    (both.0, all_passed rs ts both.1)

after_refusal : (t : Bool) (n m k : ℕ) → ((m ≡ 0 → ⊥) → k ≡ m) → (cond t n m ≡ 0 → ⊥) → cond t n k ≡ cond t n m
after_refusal true n m k f h = refl
after_refusal false n m k f h = f h

-- where a test refuses, what stands after the list plays no part
pub refused_before : (rs ts : List Refusal) → (first rs ≡ 0 → ⊥) → first (rs ++ ts) ≡ first rs
refused_before [] ts h = absurd (h refl)
refused_before (r ∷ rs) ts h = after_refusal r.test r.number (first rs) (first (rs ++ ts)) (refused_before rs ts) h

-- every number of the list lies between two
unfoldable pub Between : (lo hi : ℕ) → List Refusal → Type 0
Between lo hi [] = Unit {0}
Between lo hi (r ∷ rs) = ((lo ≤ r.number) × (r.number ≤ hi)) × Between lo hi rs

one_of : (t : Bool) (n m lo hi : ℕ) → (lo ≤ n) × (n ≤ hi) → ((m ≡ 0 → ⊥) → (lo ≤ m) × (m ≤ hi)) → (cond t n m ≡ 0 → ⊥) → (lo ≤ cond t n m) × (cond t n m ≤ hi)
one_of true n m lo hi b f h = b
one_of false n m lo hi b f h = f h

-- and so does an answer that is not 0
pub between : (lo hi : ℕ) (rs : List Refusal) → Between lo hi rs → (first rs ≡ 0 → ⊥) → (lo ≤ first rs) × (first rs ≤ hi)
unfolding Between
between lo hi [] b h = absurd (h refl)
between lo hi (r ∷ rs) (b, bs) h = one_of r.test r.number (first rs) lo hi b (between lo hi rs bs) h

-- what is asked after a refusal plays no part
pub then_refused : (a b : ℕ) → (a ≡ 0 → ⊥) → a then b ≡ a
then_refused a b h = rw (ne_eqb a 0 h)

-- what has passed is passed over
pub then_passed : (a b : ℕ) → a ≡ 0 → a then b ≡ b
then_passed a b e = rw (eq-eqb a 0 e)

-- 0 says that neither refuses
pub both_done : (a b : ℕ) → a then b ≡ 0 → (a ≡ 0) × (b ≡ 0)
both_done a b e = by_test (eqb a 0) refl e
  where
    by_test : (t : Bool) → eqb a 0 ≡ t → cond t b a ≡ 0 → (a ≡ 0) × (b ≡ 0)
    by_test true h e = (eqb-true a 0 h, e)
    by_test false h e = absurd (eqb-false a 0 h e)
