-- For each C function, two answers that meet its contract, as the checker reads it, are equal, and so is all that they leave in the
-- memory that it may write: the result first, then each buffer, record and cell. Assumes nothing.
use Prim.Native.Nat.{ℕ}
use mathlib.Core.Path.{sym, ◌∙◌}
use mathlib.Core.List.{List}
use lib.IntN.{ℤ}
use Rattle.logic.specs.Promise.{Unique, UniqueMemory, Fixes}
use Rattle.khumbuseal.proofs.hashing.khumbuseal_hash_start.Kinds as hash_start_kinds
use Rattle.khumbuseal.proofs.hashing.khumbuseal_hash_start.Reads as hash_start_reads
use Rattle.khumbuseal.proofs.hashing.khumbuseal_hash_feed_blocks.Kinds as hash_feed_blocks_kinds
use Rattle.khumbuseal.proofs.hashing.khumbuseal_hash_feed_blocks.Reads as hash_feed_blocks_reads
use Rattle.khumbuseal.proofs.hashing.khumbuseal_hash_feed_padded.Kinds as hash_feed_padded_kinds
use Rattle.khumbuseal.proofs.hashing.khumbuseal_hash_feed_padded.Reads as hash_feed_padded_reads
use Rattle.khumbuseal.proofs.hashing.khumbuseal_hash_feed_piece.Kinds as hash_feed_piece_kinds
use Rattle.khumbuseal.proofs.hashing.khumbuseal_hash_feed_piece.Reads as hash_feed_piece_reads
use Rattle.khumbuseal.proofs.hashing.khumbuseal_hash_finish.Kinds as hash_finish_kinds
use Rattle.khumbuseal.proofs.hashing.khumbuseal_hash_finish.Reads as hash_finish_reads
use Rattle.khumbuseal.proofs.hashing.khumbuseal_hash_reset.Kinds as hash_reset_kinds
use Rattle.khumbuseal.proofs.hashing.khumbuseal_hash_reset.Reads as hash_reset_reads
use Rattle.khumbuseal.proofs.hashing.khumbuseal_hash_join.Kinds as hash_join_kinds
use Rattle.khumbuseal.proofs.hashing.khumbuseal_hash_join.Reads as hash_join_reads
use Rattle.khumbuseal.proofs.hashing.khumbuseal_hash_key_belongs.Kinds as hash_key_belongs_kinds
use Rattle.khumbuseal.proofs.hashing.khumbuseal_hash_key_belongs.Reads as hash_key_belongs_reads
use Rattle.khumbuseal.proofs.ghashing.khumbuseal_ghash.Kinds as ghash_kinds
use Rattle.khumbuseal.proofs.ghashing.khumbuseal_ghash.Reads as ghash_reads
use Rattle.khumbuseal.proofs.ghashing.khumbuseal_ghash_start.Kinds as ghash_start_kinds
use Rattle.khumbuseal.proofs.ghashing.khumbuseal_ghash_start.Reads as ghash_start_reads
use Rattle.khumbuseal.proofs.ghashing.khumbuseal_ghash_feed_padded.Kinds as ghash_feed_padded_kinds
use Rattle.khumbuseal.proofs.ghashing.khumbuseal_ghash_feed_padded.Reads as ghash_feed_padded_reads
use Rattle.khumbuseal.proofs.ghashing.khumbuseal_ghash_finish.Kinds as ghash_finish_kinds
use Rattle.khumbuseal.proofs.ghashing.khumbuseal_ghash_finish.Reads as ghash_finish_reads
use Rattle.khumbuseal.proofs.sealed.khumbuseal_seal.Kinds as seal_kinds
use Rattle.khumbuseal.proofs.sealed.khumbuseal_seal.Reads as seal_reads
use Rattle.khumbuseal.proofs.sealed.khumbuseal_open.Kinds as open_kinds
use Rattle.khumbuseal.proofs.sealed.khumbuseal_open.Reads as open_reads
use Rattle.khumbuseal.proofs.frames.khumbuseal_frame_write.Kinds as frame_write_kinds
use Rattle.khumbuseal.proofs.frames.khumbuseal_frame_write.Reads as frame_write_reads
use Rattle.khumbuseal.proofs.frames.khumbuseal_frame_read.Kinds as frame_read_kinds
use Rattle.khumbuseal.proofs.frames.khumbuseal_frame_read.Reads as frame_read_reads
use Rattle.khumbuseal.proofs.frames.MessageCellsFromResultMessageReason.from.Kinds as cells_kinds
use Rattle.khumbuseal.proofs.frames.MessageCellsFromResultMessageReason.from.Reads as cells_reads
use Rattle.khumbuseal.proofs.frames.khumbuseal_frame_front.Kinds as frame_front_kinds
use Rattle.khumbuseal.proofs.frames.khumbuseal_frame_front.Reads as frame_front_reads
use Rattle.khumbuseal.proofs.frames.khumbuseal_scan.Kinds as scan_kinds
use Rattle.khumbuseal.proofs.frames.khumbuseal_scan.Reads as scan_reads
use Rattle.khumbuseal.proofs.frames.khumbuseal_position_to_bytes.Kinds as position_to_bytes_kinds
use Rattle.khumbuseal.proofs.frames.khumbuseal_position_to_bytes.Reads as position_to_bytes_reads
use Rattle.khumbuseal.proofs.frames.khumbuseal_position_from_bytes.Kinds as position_from_bytes_kinds
use Rattle.khumbuseal.proofs.frames.khumbuseal_position_from_bytes.Reads as position_from_bytes_reads
use Rattle.khumbuseal.proofs.frames.khumbuseal_position_is_in_range.Kinds as position_is_in_range_kinds
use Rattle.khumbuseal.proofs.frames.khumbuseal_position_is_in_range.Reads as position_is_in_range_reads

pub hash_start_unique : Fixes 3 hash_start_kinds.ps hash_start_kinds.r hash_start_reads.Post {T = ℕ × List ℕ × ℕ} (λ κs x e. (x, e.0.now, e.1.1.0.now))
hash_start_unique κs a x y e f p q = λ i. ((p.answer ∙ sym q.answer) i, (p.memory ∙ sym q.memory) i, (p.count ∙ sym q.count) i)

pub hash_feed_blocks_unique : Fixes 3 hash_feed_blocks_kinds.ps hash_feed_blocks_kinds.r hash_feed_blocks_reads.Post {T = ℕ × List ℕ × ℕ} (λ κs x e. (x, e.0.now, e.1.1.1.0.now))
hash_feed_blocks_unique κs a x y e f p q = λ i. ((p.answer ∙ sym q.answer) i, (p.memory ∙ sym q.memory) i, (p.count ∙ sym q.count) i)

pub hash_feed_padded_unique : Fixes 3 hash_feed_padded_kinds.ps hash_feed_padded_kinds.r hash_feed_padded_reads.Post {T = ℕ × List ℕ × ℕ} (λ κs x e. (x, e.0.now, e.1.1.1.0.now))
hash_feed_padded_unique κs a x y e f p q = λ i. ((p.answer ∙ sym q.answer) i, (p.memory ∙ sym q.memory) i, (p.count ∙ sym q.count) i)

pub hash_feed_piece_unique : Fixes 3 hash_feed_piece_kinds.ps hash_feed_piece_kinds.r hash_feed_piece_reads.Post {T = ℕ × List ℕ × ℕ} (λ κs x e. (x, e.0.now, e.1.1.1.0.now))
hash_feed_piece_unique κs a x y e f p q = λ i. ((p.answer ∙ sym q.answer) i, (p.memory ∙ sym q.memory) i, (p.count ∙ sym q.count) i)

pub hash_finish_unique : Fixes 3 hash_finish_kinds.ps hash_finish_kinds.r hash_finish_reads.Post {T = ℕ × List ℕ × ℕ} (λ κs x e. (x, e.1.1.0.now, e.1.1.1.0.now))
hash_finish_unique κs a x y e f p q = λ i. (((sym p ∙ q) i).answer, ((sym p ∙ q) i).tag, ((sym p ∙ q) i).multiplies)

pub hash_reset_unique : Fixes 1 hash_reset_kinds.ps hash_reset_kinds.r hash_reset_reads.Post {T = ℕ × List ℕ} (λ κs x e. (x, e.0.now))
hash_reset_unique κs a x y e f p q = λ i. ((p.answer ∙ sym q.answer) i, (p.memory ∙ sym q.memory) i)

pub hash_join_unique : Fixes 3 hash_join_kinds.ps hash_join_kinds.r hash_join_reads.Post {T = ℕ × List ℕ × ℕ} (λ κs x e. (x, e.0.now, e.1.1.1.0.now))
hash_join_unique κs a x y e f p q = λ i. ((p.answer ∙ sym q.answer) i, (p.memory ∙ sym q.memory) i, (p.count ∙ sym q.count) i)

pub hash_key_belongs_unique : Unique 1 hash_key_belongs_kinds.ps hash_key_belongs_kinds.r hash_key_belongs_reads.Post
hash_key_belongs_unique κs a x y e f p q = p ∙ sym q

pub ghash_unique : Fixes 3 ghash_kinds.ps ghash_kinds.r ghash_reads.Post {T = ℕ × List ℕ} (λ κs x e. (x, e.1.1.0.now))
ghash_unique κs a x y e f p q = λ i. (((sym p ∙ q) i).answer, ((sym p ∙ q) i).tag)

pub ghash_start_unique : Fixes 2 ghash_start_kinds.ps ghash_start_kinds.r ghash_start_reads.Post {T = ℕ × List ℕ} (λ κs x e. (x, e.0.now))
ghash_start_unique κs a x y e f p q = λ i. ((p.answer ∙ sym q.answer) i, (p.memory ∙ sym q.memory) i)

pub ghash_feed_padded_unique : UniqueMemory 2 ghash_feed_padded_kinds.ps ghash_feed_padded_kinds.r ghash_feed_padded_reads.Post (λ κs e. e.0.now)
ghash_feed_padded_unique κs a x y e f p q = p ∙ sym q

pub ghash_finish_unique : UniqueMemory 2 ghash_finish_kinds.ps ghash_finish_kinds.r ghash_finish_reads.Post (λ κs e. e.1.0.now)
ghash_finish_unique κs a x y e f p q = p ∙ sym q

pub seal_unique : Fixes 5 seal_kinds.ps seal_kinds.r seal_reads.Post {T = ℕ × List ℕ} (λ κs x e. (x, e.1.1.1.1.0.now))
seal_unique κs a x y e f p q = λ i. ((p.answer ∙ sym q.answer) i, (p.memory ∙ sym q.memory) i)

pub open_unique : Fixes 5 open_kinds.ps open_kinds.r open_reads.Post {T = ℕ × List ℕ} (λ κs x e. (x, e.1.1.1.1.0.now))
open_unique κs a x y e f p q = λ i. ((p.answer ∙ sym q.answer) i, (p.memory ∙ sym q.memory) i)

pub frame_write_unique : Fixes 5 frame_write_kinds.ps frame_write_kinds.r frame_write_reads.Post {T = ℕ × List ℕ × ℕ} (λ κs x e. (x, e.1.1.1.1.0.now, e.1.1.1.1.1.0.now))
frame_write_unique κs a x y e f p q = λ i. (((p.answer ∙ sym q.answer) i).answer, (p.memory ∙ sym q.memory) i, ((p.answer ∙ sym q.answer) i).len)

pub frame_read_unique : Fixes 10 frame_read_kinds.ps frame_read_kinds.r frame_read_reads.Post {T = ℕ × List ℕ × ℕ × ℕ × ℕ × ℤ × ℤ × ℤ × ℕ} (λ κs x e. (x, e.1.1.0.now, e.1.1.1.0.now, e.1.1.1.1.0.now, e.1.1.1.1.1.0.now, e.1.1.1.1.1.1.0.now, e.1.1.1.1.1.1.1.0.now, e.1.1.1.1.1.1.1.1.0.now, e.1.1.1.1.1.1.1.1.1.0.now))
frame_read_unique κs a x y e f p q = λ i. (((sym p.0 ∙ q.0) i).answer, (p.1 ∙ sym q.1) i, ((sym p.0 ∙ q.0) i).kind, ((sym p.0 ∙ q.0) i).len, ((sym p.0 ∙ q.0) i).taken, ((sym p.0 ∙ q.0) i).lat, ((sym p.0 ∙ q.0) i).lon, ((sym p.0 ∙ q.0) i).alt, ((sym p.0 ∙ q.0) i).time)

pub frame_front_unique : Fixes 3 frame_front_kinds.ps frame_front_kinds.r frame_front_reads.Post {T = ℕ × ℕ × ℕ} (λ κs x e. (x, e.1.0.now, e.1.1.0.now))
frame_front_unique κs a x y e f p q = λ i. (((sym p ∙ q) i).answer, ((sym p ∙ q) i).kind, ((sym p ∙ q) i).taken)

pub scan_unique : Fixes 3 scan_kinds.ps scan_kinds.r scan_reads.Post {T = ℕ × ℕ × ℕ} (λ κs x e. (x, e.1.0.now, e.1.1.0.now))
scan_unique κs a x y e f p q = λ i. (((sym p ∙ q) i).taken, ((sym p ∙ q) i).frames, ((sym p ∙ q) i).stop)

pub position_to_bytes_unique : UniqueMemory 1 position_to_bytes_kinds.ps position_to_bytes_kinds.r position_to_bytes_reads.Post (λ κs e. e.1.1.1.1.0.now)
position_to_bytes_unique κs a x y e f p q = p ∙ sym q

pub position_from_bytes_unique : Fixes 5 position_from_bytes_kinds.ps position_from_bytes_kinds.r position_from_bytes_reads.Post {T = ℤ × ℤ × ℤ × ℕ} (λ κs x e. (e.1.0.now, e.1.1.0.now, e.1.1.1.0.now, e.1.1.1.1.0.now))
position_from_bytes_unique κs a x y e f p q = λ i. (((sym p ∙ q) i).lat, ((sym p ∙ q) i).lon, ((sym p ∙ q) i).alt, ((sym p ∙ q) i).time)

pub position_is_in_range_unique : Unique 0 position_is_in_range_kinds.ps position_is_in_range_kinds.r position_is_in_range_reads.Post
position_is_in_range_unique κs a x y e f p q = p ∙ sym q

-- and what a reading found has its cells
pub cells_unique : Unique 0 cells_kinds.ps cells_kinds.r cells_reads.Post
cells_unique κs a x y e f p q = p ∙ sym q
