-- `octets::put` meets its contract: with room, s is copied over the part that starts at the place. Assumes nothing.
use Rattle.std.proofs.Common.{refl, arith}
use Rattle.octets.proofs.Copies.{copied_at}
use Rattle.octets.proofs.Places.{wrote_put}
use Rattle.octets.proofs.put.Goals as goal

pub returns-then-s-out : goal.returns-then-s-out
returns-then-s-out c =
    let a = c.args in
    wrote_put (omega arith) (record { out_is = copied_at a.s.now a.out.now a.at refl (omega arith) c.copy.ensures; next_is = refl })
