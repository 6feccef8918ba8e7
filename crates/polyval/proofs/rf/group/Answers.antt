-- `polyval::rf::group` meets its contract. Assumes nothing.
use Rattle.std.proofs.Common.{◌≡◌, ◌≤◌, ◌<◌, ℕ, suc, length, take, min, refl, sym, ap, ◌∙◌, subst, ⊎_elim, arith, rules}
use borrow.Kind.Array.{e_struct}
use lib.Seq.{take_all}
use Rattle.octets.specs.Xor.{◌⊕◌}
use Rattle.octets.specs.Numbers.{number}
use Rattle.octets.proofs.Xor.{⊕-lt}
use Rattle.octets.proofs.Numbers.{bytes_from}
use Rattle.field.specs.Element.{value, element}
use Rattle.field.specs.Rf.{rf_add, rf_reduced}
use Rattle.field.proofs.Element.{Sized, value_lt, value_of, element_sized}
use Rattle.field.proofs.Aggregate.{rf_adds, group_steps}
use Rattle.feeding.specs.contracts.Power.{the_type}
use Rattle.feeding.proofs.Power.TheLaws.{the_laws, the_copy}
use Rattle.feeding.specs.declared.Power.{Power}
use Rattle.feeding.specs.Key.{power_count}
use Rattle.feeding.specs.Formulas.{paired, joining}
use Rattle.feeding.proofs.Paired.{Sizes, group_elements}
use Rattle.rfc8452.specs.Blocks.{blocks}
use Rattle.rfc8452.proofs.Parts.{blocks_elements}
use Rattle.polyval.proofs.KeyTurns.{length_mapped}
use Rattle.polyval.proofs.Range.{each_at}
use Rattle.polyval.proofs.Groups.{group_turn, group_end, none_met, blocks_left, last_met}
use Rattle.polyval.proofs.rf.group.Goals as goal
use Rattle.polyval.proofs.rf.group.Goals.{Start}

four : (c : Start) → length c.args.powers ≡ power_count
four c = search (rules, length_mapped)

held : (c : Start) → Sized c.args.acc.element
held c = record { lo = omega arith; hi = omega arith }

sizes : (c : Start) → Sizes c.args.powers
sizes c =
    let none : Power = record { h = element 0; d = element 0 } in
    each_at (e_struct the_type the_laws the_copy).ty.own_val (λ p. Sized p.h × Sized p.d) none (element_sized 0, element_sized 0) (λ p u t. (record { lo = omega (arith, t); hi = omega (arith, t) }, record { lo = omega (arith, t); hi = omega (arith, t) })) c.args.powers _ c.well_formed.0.1.1

pub loop-part-init : goal.loop-part-init
loop-part-init c =
    let zipped = c.into_iter-part-iterator.ensures.into_iter_gives in
    let first = ap (λ z. z.a) zipped ∙ c.zip-part-items.ensures.first in
    let rest = ap (λ a. a.rest.now) first ∙ c.chunks.ensures.rest in
    record {
      sixteen = ap (λ a. a.size) first ∙ c.chunks.ensures.size;
      few = subst (λ t. length (blocks t) ≤ power_count) (sym rest) c.requires;
      met = ap (λ z. z.b.iter.rest.now) zipped ∙ ap (λ b. b.iter.rest.now) c.zip-part-items.ensures.second ∙ ap (λ i. i.rest.now) c.rev.ensures.source ∙ c.iter.ensures.rest
          ∙ ap (λ n. take n c.args.powers) (c.block_count.ensures ∙ ap (λ t. length (blocks t)) (sym rest));
      fits = value_lt c.args.acc.element (held (goal.at.loop-part-init c).Start);
      left = ap (λ t. rf_adds (paired c.args.powers (joining (value c.args.acc.element) (blocks t))) (record { r = element 0; f = element 0; multiplies = c.args.acc.multiplies })) rest;
    }

pub loop-part-preserved : goal.loop-part-preserved
loop-part-preserved c =
    let l = c.loop-part in
    let ps = c.args.powers in
    let s = l.part-iterator.a.rest.now in
    let t = c.next.new.self.a.rest.now in
    let x = c.in-Some.part.now in
    let turn = c.in-Some.ensures.steps in
    let cut = turn.0.1.0 in
    let long : length x ≡ min 16 (length s) = turn.0.1.1 ∙ ap (λ n. min n (length s)) l.invariant.sixteen in
    let some = turn.0.1.2 in
    let m : ℕ = length (blocks t) in
    let fewer : length (blocks s) ≡ suc m = blocks_left s x t cut long some in
    let within : m < length ps = omega (arith, fewer, l.invariant.few, four (goal.at.loop-part-preserved c).Start) in
    let none : Power = record { h = element 0; d = element 0 } in
    let power = last_met ps c.next.new.self.b.iter.rest.now c.in-Some.power.now none m within (ap (λ n. take n ps) (sym fewer) ∙ sym l.invariant.met ∙ turn.1) in
    let b = c.block_of in
    let b-is = b.ensures.whole ∙ ap number (take_all 16 x (omega (arith, long))) in
    let b-lt = value_lt b.result (record { lo = omega (arith, b.type_inv); hi = omega (arith, b.type_inv) }) in
    let m-is = value_of (value l.held ⊕ value b.result) (⊕-lt 128 (value l.held) (value b.result) l.invariant.fits b-lt) c.add-m.ensures ∙ ap (λ n. value l.held ⊕ n) b-is in
    record {
      sixteen = turn.0.0 ∙ l.invariant.sixteen;
      few = omega (arith, fewer, l.invariant.few);
      met = power.0;
      fits = omega arith;
      left = ap (rf_adds (paired ps (joining 0 (blocks t)))) (c.rf_add-sum.ensures ∙ (λ i. rf_add (m-is i) (value (power.1 i).h) (value (power.1 i).d) l.sum))
          ∙ sym (group_turn ps s x t (value l.held) m l.sum cut long some refl) ∙ l.invariant.left;
    }

pub returns : goal.returns
returns c =
    let l = c.loop-part in
    let start = (goal.at.returns c).Start in
    let ps = c.args.powers in
    let s = c.args.s.now in
    let rest = l.part-iterator.a.rest.now in
    let enough : length (blocks rest) ≤ length ps = omega (arith, l.invariant.few, four start) in
    let nothing : length rest ≡ 0 = ⊎_elim (λ u. u.1.1.0) (λ u. none_met ps rest enough (ap length (sym l.invariant.met) ∙ u.1.0)) c.in-None.ensures.steps in
    c.rf_reduce.ensures ∙ ap rf_reduced (sym (group_end ps rest (value l.held) l.sum nothing) ∙ l.invariant.left)
    ∙ group_steps (paired ps (joining (value c.args.acc.element) (blocks s)))
    (group_elements ps (value c.args.acc.element) (blocks s) (sizes start) (value_lt c.args.acc.element (held start)) (blocks_elements s (bytes_from s (λ i. (c.type_inv.s i).fits)))) c.args.acc.multiplies
