-- The bytes of the stored powers, one behind another. Assumes nothing.
use Prim.Native.Nat.{ℕ, zero, suc, ◌+◌, ◌-◌, ◌*◌, ◌<◌, ◌≤◌}
use mathlib.Core.Path.{◌≡◌, refl, ap, ◌∙◌}
use mathlib.Core.List.{List, [], ◌∷◌, ◌++◌, map}
use native.Mathlib.Omega.{arith}
use lib.ListN.{length, get_or, take, drop, length-append}
use lib.Seq.{take-take, drop-drop}
use Rattle.std.specs.List.{flat_map}
use Rattle.octets.specs.Numbers.{number}
use Rattle.octets.proofs.Numbers.{bytes_of-length}
use Rattle.octets.proofs.Parts.{drop-take}
use Rattle.field.specs.Element.{value, element}
use Rattle.feeding.specs.declared.Power.{Power}
use Rattle.record.specs.Bytes.{element_bytes, powers_bytes, power_in, powers_at}

-- each power and its D value, flattened
pub powers_flat : (ps : List Power) → flat_map (λ x. x) (flat_map (λ x. x) (map (λ (p : Power). element_bytes p.h ∷ element_bytes p.d ∷ []) ps)) ≡ powers_bytes ps
unfolding powers_bytes
powers_flat [] = refl
powers_flat (p ∷ ps) = ap (λ (l : List ℕ). element_bytes p.h ++ (element_bytes p.d ++ l)) (powers_flat ps)

pub powers_length : (ps : List Power) → length (powers_bytes ps) ≡ length ps * 32
unfolding powers_bytes
powers_length [] = refl
powers_length (p ∷ ps) =
    let l = powers_length ps in
    let h = bytes_of-length 16 (value p.h) in
    let d = bytes_of-length 16 (value p.d) in
    length-append (element_bytes p.h) (element_bytes p.d ++ powers_bytes ps)
    ∙ ap (λ (n : ℕ). length (element_bytes p.h) + n) (length-append (element_bytes p.d) (powers_bytes ps))
    ∙ omega arith

-- what powers_at has at an index
pub powers_at-length : (n i : ℕ) (b : List ℕ) → length (powers_at n i b) ≡ n
unfolding powers_at
powers_at-length zero i b = refl
powers_at-length (suc n) i b = ap suc (powers_at-length n (i + 32) b)

pub powers_at-at : (n i k : ℕ) (b : List ℕ) (d : Power) → k < n → get_or (powers_at n i b) k d ≡ power_in (i + k * 32) b
unfolding powers_at
powers_at-at zero i k b d h = absurd (omega arith)
powers_at-at (suc n) i zero b d h = let here : i ≡ i + 0 * 32 = omega arith in ap (λ (j : ℕ). power_in j b) here
powers_at-at (suc n) i (suc k) b d h = let there : i + 32 + k * 32 ≡ i + suc k * 32 = omega arith in powers_at-at n (i + 32) k b d (omega arith) ∙ ap (λ (j : ℕ). power_in j b) there

-- a power read at its place is the one at the front of what begins there
pub power_from : (n m : ℕ) (b : List ℕ) → 32 ≤ m → power_in 0 (take m (drop n b)) ≡ power_in n b
power_from n m b h =
    let d : List ℕ = drop n b in
    let cut : m ≡ 16 + (m - 16) = omega arith in
    let first : take 16 (take m d) ≡ take 16 d = take-take 16 m d (omega arith) in
    let second : take 16 (drop 16 (take m d)) ≡ take 16 (drop (n + 16) b) =
    ap (λ (k : ℕ). take 16 (drop 16 (take k d))) cut ∙ ap (take 16) (drop-take 16 (m - 16) d) ∙ take-take 16 (m - 16) (drop 16 d) (omega arith) ∙ ap (take 16) (drop-drop 16 n b) in
    λ i. record { h = element (number (first i)); d = element (number (second i)) }
