-- `aes::expansion::expand` meets its contract. Assumes nothing.
use mathlib.Core.Path.{◌≡◌, refl, sym, ap, ap₂, ◌∙◌}
use Prim.Native.Nat.{ℕ, ◌-◌, ◌*◌, ◌/◌}
use native.Mathlib.Omega.{arith}
use lib.ListN.{length, take}
use lib.Seq.{take_all}
use borrow.Author.Rules.{rules}
use Rattle.fips197.specs.KeyExpansion.{sum, temp, expand}
use Rattle.aes.proofs.Expanding.{expand_turn, expand_start}
use Rattle.aes.proofs.expansion.expand.Goals as goal

pub loop-i-init : goal.loop-i-init
loop-i-init c = let a = c.args in (refl, expand_start a.nk (take (4 * a.nk) a.w.now))

pub loop-i-preserved : goal.loop-i-preserved
loop-i-preserved c =
    let l = c.loop-i in
    let a = c.args in
    let next = c.sum-next.ensures
    ∙ ap₂ sum c.word.ensures (c.temp.ensures ∙ ap (temp a.nk l.i) c.word-in-loop-i.ensures) in
    (search rules, expand_turn a.nk (take (4 * a.nk) a.w.now) l.w _ _ l.i _ (omega (arith, c.requires)) (omega arith) (omega arith) l.invariant.1 next c.put.ensures)

pub returns : goal.returns
returns c =
    let l = c.loop-i in
    let a = c.args in
    let e : l.i ≡ length a.w.now / 4 = omega (arith, c.requires) in
    sym (take_all (4 * l.i) l.w (omega (arith, c.requires, l.invariant))) ∙ l.invariant.1 ∙ ap (λ (i : ℕ). expand a.nk (take (4 * a.nk) a.w.now) (i - a.nk)) e
