-- `polyval::soft::absorb_by` meets its contract. Assumes nothing.
use Rattle.std.proofs.Common.{◌≡◌, ℕ, ◌+◌, ◌*◌, ◌/◌, ◌^◌, ◌<◌, ◌≤◌, length, take, drop, get_or, [], sym, ap, ◌∙◌, subst, arith, ◌≢◌}
use borrow.Author.Tests.{eqb-true, eqb-false}
use Rattle.octets.specs.Numbers.{number}
use Rattle.octets.proofs.Numbers.{bytes_from, bytes_drop}
use Rattle.field.specs.Element.{value, element}
use Rattle.field.proofs.Element.{Sized, value_of}
use Rattle.rfc8452.specs.Machine.{step, run}
use Rattle.rfc8452.specs.Blocks.{blocks}
use Rattle.rfc8452.proofs.Cut.{block_lt}
use Rattle.rfc8452.proofs.Run.{step_lt}
use Rattle.polyval.specs.Product.{InWords}
use Rattle.polyval.proofs.Absorb.{product_step, chunk_at, rest_turn, rest_none}
use Rattle.polyval.proofs.soft.absorb_by.Given.{Over}
use Rattle.polyval.proofs.soft.absorb_by.Goals as goal
use Rattle.polyval.proofs.soft.absorb_by.Goals.{Start}

held : (g : Over) (c : Start g) → Sized c.args.acc
held g c = record { lo = omega arith; hi = omega arith }

key : (g : Over) (c : Start g) → InWords c.args.h
key g c = (omega arith, omega arith)

pub loop-block-preserved : goal.loop-block-preserved
loop-block-preserved g c =
    let l = c.loop-block in
    let s = c.args.s.now in
    let K : ℕ = value c.args.h in
    let at : ℕ = l.block-index * 16 in
    let below : l.block-index < length s / 16 = omega (arith, c.loop-block-test.true, c.as_chunks.ensures.front_len) in
    let x : ℕ = number (take 16 (drop at s)) in
    let x-lt = block_lt (drop at s) (bytes_drop at s (bytes_from s (λ i. (c.type_inv.s i).fits))) in
    let x-is = c.from_bytes.ensures ∙ ap (λ w. element (number (get_or w l.block-index []))) c.as_chunks.ensures.front
    ∙ ap (λ b. element (number b)) (chunk_at (length s / 16) l.block-index s below) in
    let dotted = c.requires.is_dot c.add.result c.args.h c.product-a.result (omega (arith, c.add.type_inv), omega (arith, c.add.type_inv)) (key g (goal.at.loop-block-preserved g c).Start) c.product-a.ensures in
    let next = product_step l.a c.from_bytes.result c.add.result c.args.h c.product-a.result x l.invariant.fits x-lt (value_of x x-lt x-is) c.add.ensures dotted in
    let next_is = value_of (step K (value l.a) x) (step_lt K (value l.a) x) next in
    let on : (l.block-index + 1) * 16 ≡ at + 16 = omega arith in
    record {
      fits = subst (λ n. n < 2 ^ 128) (sym next_is) (step_lt K (value l.a) x);
      an_element = next ∙ ap element (sym next_is);
      left = (λ i. run K (next_is i) (blocks (drop (on i) s))) ∙ sym (rest_turn K (value l.a) s at (omega (arith, below))) ∙ l.invariant.left;
    }

pub returns-then-is_empty : goal.returns-then-is_empty
returns-then-is_empty g c =
    let l = c.loop-block in
    let s = c.args.s.now in
    let empty : length c.as_chunks.result.1.now ≡ 0 = eqb-true _ _ (sym c.is_empty.ensures ∙ c.if-is_empty.true) in
    let none : length s ≤ l.block-index * 16 = omega (arith, c.loop-block-test.false, c.as_chunks.ensures.front_len, c.as_chunks.ensures.back_len, empty) in
    l.invariant.an_element ∙ ap element (sym (rest_none (value c.args.h) (value l.a) s (l.block-index * 16) none) ∙ l.invariant.left)

pub returns : goal.returns
returns g c =
    let l = c.loop-block in
    let s = c.args.s.now in
    let K : ℕ = value c.args.h in
    let at : ℕ = l.block-index * 16 in
    let end : at ≡ length s / 16 * 16 = omega (arith, c.loop-block-test.false, l.auto.block-index-end, c.as_chunks.ensures.front_len) in
    let full : length c.as_chunks.result.1.now ≢ 0 = eqb-false _ _ (sym c.is_empty.ensures ∙ c.if-is_empty.false) in
    let some : at < length s = omega (arith, end, c.as_chunks.ensures.back_len, full) in
    let x : ℕ = number (take 16 (drop at s)) in
    let x-lt = block_lt (drop at s) (bytes_drop at s (bytes_from s (λ i. (c.type_inv.s i).fits))) in
    let x-is = c.block_of.ensures.whole ∙ ap (λ t. number (take 16 t)) (c.as_chunks.ensures.back ∙ ap (λ k. drop k s) (sym end)) in
    let dotted = c.requires.is_dot c.add-2.result c.args.h c.product.result (omega (arith, c.add-2.type_inv), omega (arith, c.add-2.type_inv)) (key g (goal.at.returns g c).Start) c.product.ensures in
    product_step l.a c.block_of.result c.add-2.result c.args.h c.product.result x l.invariant.fits x-lt x-is c.add-2.ensures dotted
    ∙ ap element (sym (rest_none K (step K (value l.a) x) s (at + 16) (omega (arith, end))) ∙ sym (rest_turn K (value l.a) s at some) ∙ l.invariant.left)
