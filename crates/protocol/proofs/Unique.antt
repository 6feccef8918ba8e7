-- For each public call that promises its whole answer, two answers that meet its contract, as the checker reads it, are equal; of a
-- part that is handed back its bytes. Assumes nothing.
use mathlib.Core.Path.{sym, ◌∙◌}
use mathlib.Core.List.{◌∷◌}
use Rattle.logic.specs.Promise.{Unique, Fixes}
use Rattle.protocol.proofs.input.Reading.start.Kinds as start_kinds
use Rattle.protocol.proofs.input.Reading.start.Reads as start_reads
use Rattle.protocol.proofs.said.Said.numbers.Kinds as numbers_kinds
use Rattle.protocol.proofs.said.Said.numbers.Reads as numbers_reads
use Rattle.protocol.proofs.said.Said.of_kind.Kinds as of_kind_kinds
use Rattle.protocol.proofs.said.Said.of_kind.Reads as of_kind_reads
use Rattle.protocol.proofs.said.Said.with_bytes.Kinds as with_bytes_kinds
use Rattle.protocol.proofs.said.Said.with_bytes.Reads as with_bytes_reads
use Rattle.protocol.proofs.waiting.Waiting.arena.Kinds as arena_kinds
use Rattle.protocol.proofs.waiting.Waiting.arena.Reads as arena_reads
use Rattle.protocol.proofs.waiting.Waiting.none.Kinds as none_kinds
use Rattle.protocol.proofs.waiting.Waiting.none.Reads as none_reads
use Rattle.protocol.proofs.words.Asked.span.Kinds as span_kinds
use Rattle.protocol.proofs.words.Asked.span.Reads as span_reads
use Rattle.protocol.proofs.words.Asked.bytes.Kinds as bytes_kinds
use Rattle.protocol.proofs.words.Asked.bytes.Reads as bytes_reads
use Rattle.protocol.proofs.words.Asked.number.Kinds as number_kinds
use Rattle.protocol.proofs.words.Asked.number.Reads as number_reads
use Rattle.protocol.proofs.words.Asked.block.Kinds as block_kinds
use Rattle.protocol.proofs.words.Asked.block.Reads as block_reads
use Rattle.protocol.proofs.words.Asked.spelled.Kinds as spelled_kinds
use Rattle.protocol.proofs.words.Asked.spelled.Reads as spelled_reads

pub start_unique : Unique 0 start_kinds.ps start_kinds.r start_reads.Post
start_unique κs a x y e f p q =
    let same = p ∙ sym q in
    (λ i. record { from = (same i).from; to = (same i).to })

pub numbers_unique : Unique 1 numbers_kinds.ps numbers_kinds.r numbers_reads.Post
numbers_unique κs a x y e f p q = p ∙ sym q

pub of_kind_unique : Unique 0 of_kind_kinds.ps of_kind_kinds.r of_kind_reads.Post
of_kind_unique κs a x y e f p q = p ∙ sym q

pub with_bytes_unique : Unique 0 with_bytes_kinds.ps with_bytes_kinds.r with_bytes_reads.Post
with_bytes_unique κs a x y e f p q = p ∙ sym q

pub number_unique : Unique 2 number_kinds.ps number_kinds.r number_reads.Post
number_unique κs a x y e f p q = p ∙ sym q

pub block_unique : Unique 2 block_kinds.ps block_kinds.r block_reads.Post
block_unique κs a x y e f p q = p ∙ sym q

pub spelled_unique : Unique 2 spelled_kinds.ps spelled_kinds.r spelled_reads.Post
spelled_unique κs a x y e f p q = p ∙ sym q

pub none_unique : Fixes 1 none_kinds.ps none_kinds.r none_reads.Post (λ κs x e. x.len ∷ x.buffer.now)
none_unique κs a x y e f p q = (λ i. (p.0 ∙ sym q.0) i ∷ (p.1 ∙ sym q.1) i)

pub arena_unique : Fixes 2 arena_kinds.ps arena_kinds.r arena_reads.Post (λ κs x e. x.now)
arena_unique κs a x y e f p q = p ∙ sym q

pub span_unique : Fixes 2 span_kinds.ps span_kinds.r span_reads.Post (λ κs x e. x.now)
span_unique κs a x y e f p q = p ∙ sym q

pub bytes_unique : Fixes 2 bytes_kinds.ps bytes_kinds.r bytes_reads.Post (λ κs x e. x.now)
bytes_unique κs a x y e f p q = p ∙ sym q
