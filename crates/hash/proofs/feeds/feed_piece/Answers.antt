-- `hash::feeds::feed_piece` meets its contract. Assumes nothing.
use Rattle.std.proofs.Common.{◌≡◌, ◌++◌, ◌<◌, ◌+◌, length, take, sym, ap, ◌∙◌, arith, rules}
use lib.ListN.{length-append}
use lib.Seq.{length-take-le}
use Rattle.field.proofs.Element.{Sized}
use Rattle.rfc8452.specs.Blocks.{blocks}
use Rattle.rfc8452.proofs.Cut.{blocks-none}
use Rattle.feeding.specs.Formulas.{alone}
use Rattle.feeding.specs.Routes.{absorb_on}
use Rattle.feeding.specs.Record.{fed_or, pending_of, held_by, holding}
use Rattle.feeding.specs.Calls.{pieced}
use Rattle.feeding.proofs.Alone.{alone_none}
use Rattle.hash.proofs.Store.{few_whole, few_short, filled_front}
use Rattle.hash.proofs.feeds.feed_piece.Goals as goal
use Rattle.hash.proofs.feeds.feed_piece.Goals.{Start}

long-at : (c : Start) → length c.args.h.pending ≡ 16
long-at c = search rules

sized-at : (c : Start) → Sized c.args.h.acc
sized-at c = record { lo = omega arith; hi = omega arith }

pub returns : goal.returns
unfolding pieced
returns c =
    let start = (goal.at.returns c).Start in
    let h = c.args.h in
    let d = pending_of h ++ c.args.s.now in
    let short = c.if-h-s.false in
    let at_count : length d ≡ h.count + length c.args.s.now = length-append (pending_of h) c.args.s.now ∙ ap (λ n. n + length c.args.s.now) (length-take-le h.count h.pending (omega (arith, long-at start, short))) in
    let few : length d < 16 = omega (arith, short, at_count) in
    let nothing = sym (ap (λ w. absorb_on c.args.route alone h.key (held_by h) (blocks w)) (few_whole d few) ∙ ap (absorb_on c.args.route alone h.key (held_by h)) blocks-none ∙ alone_none h.key (held_by h) (sized-at start) c.args.route) in
    let front = ap (take (h.count + length c.args.s.now)) c.kept-pending.ensures ∙ filled_front d (h.count + length c.args.s.now) at_count in
    c.holding.ensures ∙ (λ i. holding h.key ((c.held.ensures ∙ nothing) i) ((front ∙ sym (few_short d few)) i)) ∙ ap (λ n. fed_or n (pieced c.args.route h d)) c.in_ok-pending_at_most.ensures
