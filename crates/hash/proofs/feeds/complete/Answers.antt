-- `hash::feeds::complete` meets its contract. Assumes nothing.
use mathlib.Core.Path.{◌≡◌, refl, sym, ap, ◌∙◌}
use Prim.Native.Nat.{ℕ, ◌+◌, ◌-◌, ◌%◌, ◌≤◌}
use native.Mathlib.Omega.{arith}
use lib.ListN.{length, take, drop}
use lib.Seq.{length-take-le}
use Rattle.field.proofs.Element.{Sized}
use Rattle.rfc8452.specs.Blocks.{blocks}
use Rattle.feeding.specs.Formulas.{alone}
use Rattle.feeding.specs.Routes.{absorb_on}
use Rattle.octets.proofs.Parts.{part_rest}
use Rattle.feeding.proofs.Alone.{alone_++}
use Rattle.feeding.specs.Record.{pending_of, held_by, holding}
use Rattle.feeding.specs.Calls.{pieced}
use Rattle.hash.proofs.Store.{filled_full, completed, completed_length, enough_blocks, enough_short}
use borrow.Author.Rules.{rules}
use Rattle.hash.proofs.feeds.complete.Goals as goal
use Rattle.hash.proofs.feeds.complete.Goals.{Start}

long-at : (c : Start) → length c.args.h.pending ≡ 16
long-at c = search rules

sized-at : (c : Start) → Sized c.args.h.acc
sized-at c = record { lo = omega arith; hi = omega arith }

pub returns : goal.returns
unfolding pieced
returns c =
    let start = (goal.at.returns c).Start in
    let h = c.args.h in
    let s = c.args.s.now in
    let few = start.requires.0 in
    let many = start.requires.1 in
    let sized = sized-at start in
    let room : ℕ = 16 - h.count in
    let end : ℕ = length s - (length s - room) % 16 in
    let at_count : length (pending_of h) ≡ h.count = length-take-le h.count h.pending (omega (arith, few, long-at start)) in
    let completes : h.count + room ≡ 16 = omega (arith, few) in
    let enough : room ≤ length s = omega (arith, many) in
    let first = c.kept-first.ensures
    ∙ filled_full (completed (pending_of h) s h.count room end at_count completes enough refl) (completed_length (pending_of h) s h.count room end at_count completes enough refl) in
    let made = c.absorb-made.ensures
    ∙ (λ i. absorb_on c.args.route alone h.key (c.held.ensures i) (blocks (first i))) in
    let more = c.absorb-more.ensures ∙ ap (λ m. absorb_on c.args.route alone h.key m (blocks (take (end - room) (drop room s)))) made
    ∙ sym (alone_++ h.key (held_by h) sized c.args.route (blocks (completed (pending_of h) s h.count room end at_count completes enough refl)) (blocks (take (end - room) (drop room s))))
    ∙ ap (absorb_on c.args.route alone h.key (held_by h)) (sym (enough_blocks (pending_of h) s h.count room end at_count completes enough refl)) in
    c.holding.ensures ∙ (λ i. holding h.key (more i) ((part_rest end s ∙ sym (enough_short (pending_of h) s h.count room end at_count completes enough refl)) i))
