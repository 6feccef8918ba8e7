-- For each public function, two answers that meet its contract, as the checker reads it, are equal. Assumes nothing.
use mathlib.Core.Path.{sym, ◌∙◌}
use Rattle.logic.specs.Promise.{Unique}
use Rattle.feeding.proofs.Told.{fed_one, finish_one}
use Rattle.hash.proofs.records.zero.Kinds as zero_kinds
use Rattle.hash.proofs.records.zero.Reads as zero_reads
use Rattle.hash.proofs.starting.start.Kinds as start_kinds
use Rattle.hash.proofs.starting.start.Reads as start_reads
use Rattle.hash.proofs.feeds.feed_blocks.Kinds as feed_blocks_kinds
use Rattle.hash.proofs.feeds.feed_blocks.Reads as feed_blocks_reads
use Rattle.hash.proofs.feeds.feed_padded.Kinds as feed_padded_kinds
use Rattle.hash.proofs.feeds.feed_padded.Reads as feed_padded_reads
use Rattle.hash.proofs.feeds.feed_piece.Kinds as feed_piece_kinds
use Rattle.hash.proofs.feeds.feed_piece.Reads as feed_piece_reads
use Rattle.hash.proofs.finishing.finish.Kinds as finish_kinds
use Rattle.hash.proofs.finishing.finish.Reads as finish_reads
use Rattle.hash.proofs.starting.reset.Kinds as reset_kinds
use Rattle.hash.proofs.starting.reset.Reads as reset_reads

pub zero_unique : Unique 0 zero_kinds.ps zero_kinds.r zero_reads.Post
zero_unique κs a x y e f p q = p ∙ sym q

pub start_unique : Unique 1 start_kinds.ps start_kinds.r start_reads.Post
start_unique κs a x y e f p q = fed_one x y (p ∙ sym q)

pub feed_blocks_unique : Unique 1 feed_blocks_kinds.ps feed_blocks_kinds.r feed_blocks_reads.Post
feed_blocks_unique κs a x y e f p q = fed_one x y (p ∙ sym q)

pub feed_padded_unique : Unique 1 feed_padded_kinds.ps feed_padded_kinds.r feed_padded_reads.Post
feed_padded_unique κs a x y e f p q = fed_one x y (p ∙ sym q)

pub feed_piece_unique : Unique 1 feed_piece_kinds.ps feed_piece_kinds.r feed_piece_reads.Post
feed_piece_unique κs a x y e f p q = fed_one x y (p ∙ sym q)

pub finish_unique : Unique 0 finish_kinds.ps finish_kinds.r finish_reads.Post
finish_unique κs a x y e f p q = finish_one x y (p ∙ sym q)

pub reset_unique : Unique 0 reset_kinds.ps reset_kinds.r reset_reads.Post
reset_unique κs a x y e f p q = fed_one x y (p ∙ sym q)
