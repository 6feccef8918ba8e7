-- What the R/F route spends, on any stored values: 4 n + 1 word products for a group of n, and so document 01's numbers. Assumes nothing.
use mathlib.Core.Path.{◌≡◌, refl, sym, ap, ◌∙◌, subst}
use mathlib.Core.List.{List, [], ◌∷◌}
use Prim.Native.Nat.{ℕ, zero, suc, ◌+◌, ◌*◌, ◌/◌, ◌%◌, ◌≤◌, ◌<◌, ◌^◌}
use native.Mathlib.Nat.{suc-mul, zero-mul, zero-add, add_comm, mod-lt, mod-eq_of_lt, div-mul-le_self, mod-eq-sub-div-mul}
use native.Mathlib.Omega.{arith}
use lib.ListN.{length, take, drop, length-drop}
use lib.Pow.{pow_pos}
use lib.Seq.{length-take-le}
use Rattle.field.specs.declared.rf.Counted.{Counted}
use Rattle.field.specs.Element.{value}
use Rattle.field.specs.Rf.{after, rf_group}
use Rattle.field.proofs.Count.{after_after}
use Rattle.feeding.specs.declared.Power.{Power}
use Rattle.feeding.specs.Key.{expansion_cost}
use Rattle.feeding.specs.Cost.{start_cost, blocks_cost, lones_cost}
use Rattle.feeding.specs.Formulas.{paired, joining, group_of, groups_of, rf_run, in_groups, alone}

-- n blocks, taken in groups of these sizes
unfoldable pub cost : (sizes : List ℕ) → (n : ℕ) → ℕ
cost [] n = 0
cost (g ∷ gs) n = n / g * (4 * g + 1) + cost gs (n % g)

paired_length : (ps : List Power) (xs : List ℕ) → length (paired ps xs) ≡ length xs
unfolding paired
paired_length ps [] = refl
paired_length ps (x ∷ xs) = ap suc (paired_length ps xs)

joining_length : (s : ℕ) (xs : List ℕ) → length (joining s xs) ≡ length xs
joining_length s [] = refl
joining_length s (x ∷ xs) = refl

group_cost : (ps : List Power) (held : Counted) (xs : List ℕ) → (group_of ps held xs).multiplies ≡ after (4 * length xs + 1) held.multiplies
unfolding rf_group
group_cost ps held xs =
    let s : ℕ = value held.element in
    ap (λ n. after (4 * n + 1) held.multiplies) (paired_length ps (joining s xs) ∙ joining_length s xs)

after_none : (m : ℕ) → m < 2 ^ 64 → m ≡ after 0 m
after_none m l = omega arith

groups_cost : (k n : ℕ) (ps : List Power) (held : Counted) (xs : List ℕ) → held.multiplies < 2 ^ 64 → k * n ≤ length xs
    → (groups_of k n ps held xs).multiplies ≡ after (k * (4 * n + 1)) held.multiplies
unfolding groups_of
groups_cost zero n ps held xs l room = after_none held.multiplies l ∙ ap (λ k. after k held.multiplies) (sym (zero-mul (4 * n + 1)))
groups_cost (suc k) n ps held xs l room =
    let c : ℕ = 4 * n + 1 in
    let more : suc k * n ≡ n + k * n = suc-mul k n ∙ omega arith in
    let next : Counted = group_of ps held (take n xs) in
    let first : next.multiplies ≡ after c held.multiplies =
    group_cost ps held (take n xs) ∙ ap (λ m. after (4 * m + 1) held.multiplies) (length-take-le n xs (omega (arith, more))) in
    groups_cost k n ps next (drop n xs) (subst (λ m. m < 2 ^ 64) (sym first) (mod-lt (held.multiplies + c) (pow_pos 64)))
    (subst (λ m. k * n ≤ m) (sym (length-drop n xs)) (omega (arith, more)))
    ∙ ap (after (k * c)) first ∙ after_after c (k * c) held.multiplies ∙ ap (λ m. after m held.multiplies) (add_comm c (k * c) ∙ sym (suc-mul k c))

run_spent : (ns : List ℕ) (ps : List Power) (held : Counted) (xs : List ℕ) → held.multiplies < 2 ^ 64
    → (rf_run ns ps held xs).multiplies ≡ after (cost ns (length xs)) held.multiplies
unfolding rf_run cost
run_spent [] ps held xs l = after_none held.multiplies l
run_spent (g ∷ gs) ps held xs l =
    let k : ℕ = length xs / g in
    let next : Counted = groups_of k g ps held xs in
    let first : next.multiplies ≡ after (k * (4 * g + 1)) held.multiplies = groups_cost k g ps held xs l (div-mul-le_self (length xs) g) in
    run_spent gs ps next (drop (k * g) xs) (subst (λ m. m < 2 ^ 64) (sym first) (mod-lt (held.multiplies + k * (4 * g + 1)) (pow_pos 64)))
    ∙ (λ i. after (cost gs ((length-drop (k * g) xs ∙ sym (mod-eq-sub-div-mul (length xs) g)) i)) (first i))
    ∙ after_after (k * (4 * g + 1)) (cost gs (length xs % g)) held.multiplies

-- counted from nothing, where the number fits a word
pub run_cost : (ns : List ℕ) (ps : List Power) (held : Counted) (xs : List ℕ) → held.multiplies ≡ 0 → cost ns (length xs) < 2 ^ 64
    → (rf_run ns ps held xs).multiplies ≡ cost ns (length xs)
run_cost ns ps held xs none fits =
    run_spent ns ps held xs (subst (λ m. m < 2 ^ 64) (sym none) (pow_pos 64)) ∙ ap (after (cost ns (length xs))) none
    ∙ ap (λ m. m % 2 ^ 64) (zero-add (cost ns (length xs))) ∙ mod-eq_of_lt fits

-- these are document 01's numbers
pub groups_number : (n : ℕ) → cost in_groups n ≡ blocks_cost n
unfolding cost
groups_number n = omega arith

pub alone_number : (n : ℕ) → cost alone n ≡ lones_cost n
unfolding cost
alone_number n = omega arith

pub expansion_number : expansion_cost ≡ start_cost
expansion_number = refl
