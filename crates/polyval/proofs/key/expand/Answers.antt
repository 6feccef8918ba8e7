-- `polyval::key::expand` meets its contract. Assumes nothing.
use Prim.Native.Nat.{ℕ, suc, ◌+◌, ◌-◌, ◌*◌, ◌%◌, ◌^◌, ◌<◌}
use mathlib.Core.Path.{◌≡◌, refl, sym, ap, ◌∙◌}
use mathlib.Core.List.{◌∷◌, append-nil}
use native.Mathlib.Omega.{arith}
use lib.ListN.{set}
use lib.Seq.{paste}
use Rattle.gf2.specs.Polyval.{dot}
use Rattle.field.specs.Element.{value, element}
use Rattle.field.proofs.Element.{Sized, element_value}
use Rattle.feeding.specs.Key.{power_count, powers_from, power_at}
use Rattle.feeding.proofs.Powers.{nth, power_at_lem, powers_length}
use Rattle.polyval.proofs.KeyTurns.{store_turn, next_power, next_companion}
use Rattle.polyval.proofs.key.expand.Goals as goal

pub loop-power-init : goal.loop-power-init
unfolding nth
loop-power-init c =
    let h = c.args.h in
    record { spent = ap (λ r. r.multiplies) c.companion-first.ensures; last = sym (element_value h (record { lo = omega arith; hi = omega arith })); powers = refl }

pub loop-power-preserved : goal.loop-power-preserved
unfolding nth
loop-power-preserved c =
    let l = c.loop-power in
    let h = c.args.h in
    let sized : Sized h = record { lo = omega (arith, c.well_formed); hi = omega (arith, c.well_formed) } in
    let d = c.companion-first in
    let j : ℕ = l.power-index in
    let r = c.rf_mul-next in
    let s = c.companion-companion in
    let power = next_power h d.result.element l.last j l.spent sized (ap (λ x. x.element) d.ensures) l.invariant.last r.result r.ensures in
    let comp = next_companion h d.result.element l.last j l.spent sized (ap (λ x. x.element) d.ensures) l.invariant.last r.result s.result power s.ensures in
    let p : ℕ = dot (value h) (value h) in
    let P = powers_from (value h) p (power_count - 1) in
    let below : j < power_count - 1 = c.loop-power-test.true in
    let new : record { h = r.result.element; d = s.result.element } ≡ power_at P j =
    (λ i. record { h = (power i).element; d = (comp i).element }) ∙ sym (power_at_lem (value h) p (power_count - 1) j below) in
    let multiplied : s.result.multiplies ≡ (((l.spent + 5) % 2 ^ 64) + 1) % 2 ^ 64 = ap (λ x. x.multiplies) comp in
    let spent-is : l.spent ≡ suc j + 5 * j = l.invariant.spent in
    let next : suc j ≡ j + 1 = omega arith in
    record {
      spent = omega (arith, multiplied, spent-is, below);
      last = ap (λ x. x.element) power ∙ ap (λ n. element (nth (value h) (value h) n)) next;
      powers = (λ i. set (l.invariant.powers i) j (new i)) ∙ store_turn _ P _ j (omega (arith, below)) (omega (arith, below, powers_length (value h) p (power_count - 1)));
    }

pub returns : goal.returns
unfolding powers_from
returns c =
    let l = c.loop-power in
    let h = c.args.h in
    let e : l.power-index ≡ power_count - 1 = omega arith in
    let rest = append-nil l.power-items ∙ l.invariant.powers ∙ ap (paste _ 0 (powers_from (value h) (dot (value h) (value h)) (power_count - 1))) e in
    let first = sym (element_value h (record { lo = omega arith; hi = omega arith })) in
    (λ i. record { key = record { powers = record { h = first i; d = (c.companion-first.ensures i).element } ∷ rest i }; multiplies = (l.invariant.spent ∙ ap (λ n. suc n + 5 * n) e) i })
