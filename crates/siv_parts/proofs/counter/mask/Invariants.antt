-- `siv_parts::counter::mask` meets its contract: after k blocks the text is masked with as many of key stream. Assumes nothing.
use Rattle.std.proofs.Common.{◌≡◌}
use Rattle.octets.specs.Strings.{xor_bytes}
use Rattle.modes.specs.Stream.{stream}
use Rattle.aead.specs.Cipher.{encrypted}
use Rattle.modes.proofs.Stream.{after}
use Rattle.rfc8452.specs.Counter.{next_counter}
use Rattle.siv_parts.proofs.counter.mask.Given as goal

abbrev pub invariant-loop-k : goal.invariant-loop-k
invariant-loop-k l =
    (l.counter ≡ after next_counter l.k l.initial.counter)
    × (l.text ≡ xor_bytes l.initial.text (stream next_counter (encrypted l.cipher) l.k l.initial.counter))
