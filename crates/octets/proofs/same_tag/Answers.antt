-- `octets::same_tag` meets its contract: after i turns no difference is gathered exactly where the first i bytes are the same. Assumes nothing.
use Rattle.std.proofs.Common.{length, length-append, rules}
use Rattle.std.proofs.lemmas.Slice.Zip.{zip_turn}
use Rattle.octets.proofs.Same.{start, turn}
use Rattle.octets.proofs.same_tag.Goals as goal

pub loop-x-init : goal.loop-x-init
loop-x-init c = start c.args.a c.args.b

pub loop-x-preserved : goal.loop-x-preserved
loop-x-preserved c =
    let l = c.loop-x in
    let (a_goes_on, b_goes_on, x_is, y_is) =
    zip_turn c.args.a c.args.b l.yielded c.into_iter-x-iterator.result l.x-iterator c.next.new.self _ (search rules) (search rules) l.yielded_by _ c.in-Some.is c.next.ensures.steps in
    turn c.args.a c.args.b (length l.yielded) l.differences a_goes_on b_goes_on (x_is 0) (y_is 0) (length-append l.yielded _) l.invariant
