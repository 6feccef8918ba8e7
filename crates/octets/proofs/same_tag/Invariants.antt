-- `octets::same_tag` meets its contract: after i turns no difference is gathered exactly where the first i bytes are the same. Assumes nothing.
use Rattle.std.proofs.Common.{◌≡◌, length, take, nat_eq}
use Rattle.octets.specs.Strings.{same_bytes}
use Rattle.octets.proofs.same_tag.Given as goal

abbrev pub invariant-loop-x : goal.invariant-loop-x
invariant-loop-x l = nat_eq l.differences 0 ≡ same_bytes (take (length l.yielded) l.fn.a) (take (length l.yielded) l.fn.b)
