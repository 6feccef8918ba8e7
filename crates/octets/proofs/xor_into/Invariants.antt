-- `octets::xor_into` meets its contract: after i turns the first i bytes of the pad are added. Assumes nothing.
use Rattle.std.proofs.Common.{◌≡◌, take}
use Rattle.octets.specs.Strings.{xor_bytes}
use Rattle.octets.proofs.xor_into.Given as goal

abbrev pub invariant-loop-i : goal.invariant-loop-i
invariant-loop-i l = l.text ≡ xor_bytes l.initial.text (take l.i l.pad)
