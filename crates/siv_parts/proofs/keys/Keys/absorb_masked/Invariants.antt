-- `siv_parts::keys::Keys::absorb_masked` meets its contract: the blocks that are left, hashed from here on, give the whole. Assumes nothing.
use Rattle.std.proofs.Common.{◌≡◌}
use Rattle.std.specs.Slice.Iter.{chunks_rest, chunks_size}
use Rattle.field.specs.Element.{value}
use Rattle.field.proofs.Element.{Sized}
use Rattle.rfc8452.specs.Machine.{run}
use Rattle.rfc8452.specs.Blocks.{blocks}
use Rattle.modes.specs.Stream.{masked}
use Rattle.aead.specs.Cipher.{encrypted}
use Rattle.rfc8452.specs.Counter.{next_counter}
use Rattle.siv_parts.proofs.keys.Keys.absorb_masked.Given as goal

abbrev pub invariant-loop-block : goal.invariant-loop-block
invariant-loop-block l =
    goal.iterator-loop-block.can_next l.block-iterator
    × goal.iterator-loop-block.is_finite l.block-iterator
    × (chunks_size l.block-iterator ≡ 16)
    × Sized l.a
    × (run (value l.self.hash) (value l.a) (blocks (masked next_counter (encrypted l.self.cipher) l.b (chunks_rest l.block-iterator)))
    ≡ run (value l.self.hash) (value l.initial.a) (blocks (masked next_counter (encrypted l.self.cipher) l.initial.b l.fn.body)))
