-- The R/F route on the values that a key stores, whether they belong to H or not (document 01, "Feeding and joining", and port order 5). Assumes nothing.
use Rattle.std.specs.Prelude.{ℕ, zero, suc, ◌*◌, ◌/◌, List, [], ◌∷◌, length, take, drop}
use Rattle.octets.specs.Xor.{◌⊕◌}
use Rattle.field.specs.declared.rf.Counted.{Counted}
use Rattle.field.specs.Element.{value}
use Rattle.field.specs.Rf.{Term, rf_group}
use Rattle.feeding.specs.declared.Power.{Power}
use Rattle.feeding.specs.Key.{power_count, power_at}

-- "Four blocks pair with H^4, H^3, H^2, H in that order": a block meets the power whose place is the number of blocks behind it
unfoldable pub paired : List Power → List ℕ → List Term
paired ps [] = []
paired ps (x ∷ xs) = record { m = x; h = value (power_at ps (length xs)).h; d = value (power_at ps (length xs)).d } ∷ paired ps xs

-- the element held joins the first block alone
abbrev pub joining : ℕ → List ℕ → List ℕ
joining s [] = []
joining s (x ∷ xs) = (s ⊕ x) ∷ xs

-- the blocks of one group, with one reduction
abbrev pub group_of : List Power → Counted → List ℕ → Counted
group_of ps held xs = rf_group (paired ps (joining (value held.element) xs)) held.multiplies

-- k groups of n blocks each, from the front
unfoldable pub groups_of : (k n : ℕ) → List Power → Counted → List ℕ → Counted
groups_of zero n ps held xs = held
groups_of (suc k) n ps held xs = groups_of k n ps (group_of ps held (take n xs)) (drop n xs)

-- as many groups of the first size as the blocks fill, then of the next with what is left
unfoldable pub rf_run : (sizes : List ℕ) → List Power → Counted → List ℕ → Counted
rf_run [] ps held xs = held
rf_run (n ∷ ns) ps held xs = rf_run ns ps (groups_of (length xs / n) n ps held xs) (drop (length xs / n * n) xs)

-- "Whole-block and padded feeds take groups of four from the front, then lone blocks"
abbrev pub in_groups : List ℕ
in_groups = power_count ∷ 1 ∷ []

-- "piece feed and finish take lone blocks only"
abbrev pub alone : List ℕ
alone = 1 ∷ []
