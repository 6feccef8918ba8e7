-- For each public function, two answers that meet its contract, as the checker reads it, are equal. Assumes nothing.
use mathlib.Core.Path.{sym, ◌∙◌}
use Rattle.logic.specs.Promise.{Unique}
use Rattle.polyval.proofs.block.pasted.Kinds as pasted_kinds
use Rattle.polyval.proofs.block.pasted.Reads as pasted_reads
use Rattle.polyval.proofs.block.block_of.Kinds as block_of_kinds
use Rattle.polyval.proofs.block.block_of.Reads as block_of_reads
use Rattle.polyval.proofs.block.block_at.Kinds as block_at_kinds
use Rattle.polyval.proofs.block.block_at.Reads as block_at_reads
use Rattle.polyval.proofs.soft.step.Kinds as step_kinds
use Rattle.polyval.proofs.soft.step.Reads as step_reads
use Rattle.polyval.proofs.soft.absorb.Kinds as absorb_kinds
use Rattle.polyval.proofs.soft.absorb.Reads as absorb_reads
use Rattle.polyval.proofs.soft.absorb32.Kinds as absorb32_kinds
use Rattle.polyval.proofs.soft.absorb32.Reads as absorb32_reads
use Rattle.polyval.proofs.key.h_of.Kinds as h_of_kinds
use Rattle.polyval.proofs.key.h_of.Reads as h_of_reads
use Rattle.polyval.proofs.key.expand.Kinds as expand_kinds
use Rattle.polyval.proofs.key.expand.Reads as expand_reads
use Rattle.polyval.proofs.key.check.Kinds as check_kinds
use Rattle.polyval.proofs.key.check.Reads as check_reads
use Rattle.polyval.proofs.route.absorb.Kinds as route_absorb_kinds
use Rattle.polyval.proofs.route.absorb.Reads as route_absorb_reads

pub pasted_unique : Unique 1 pasted_kinds.ps pasted_kinds.r pasted_reads.Post
pasted_unique κs a x y e f p q = p ∙ sym q

pub block_of_unique : Unique 1 block_of_kinds.ps block_of_kinds.r block_of_reads.Post
block_of_unique κs a x y e f p q = p.is ∙ sym q.is

pub block_at_unique : Unique 1 block_at_kinds.ps block_at_kinds.r block_at_reads.Post
block_at_unique κs a x y e f p q = p.is ∙ sym q.is

pub step_unique : Unique 0 step_kinds.ps step_kinds.r step_reads.Post
step_unique κs a x y e f p q = p ∙ sym q

pub absorb_unique : Unique 1 absorb_kinds.ps absorb_kinds.r absorb_reads.Post
absorb_unique κs a x y e f p q = p ∙ sym q

pub absorb32_unique : Unique 1 absorb32_kinds.ps absorb32_kinds.r absorb32_reads.Post
absorb32_unique κs a x y e f p q = p ∙ sym q

pub h_of_unique : Unique 0 h_of_kinds.ps h_of_kinds.r h_of_reads.Post
h_of_unique κs a x y e f p q = p ∙ sym q

pub expand_unique : Unique 0 expand_kinds.ps expand_kinds.r expand_reads.Post
expand_unique κs a x y e f p q = p ∙ sym q

pub check_unique : Unique 0 check_kinds.ps check_kinds.r check_reads.Post
check_unique κs a x y e f p q = p ∙ sym q

pub route_absorb_unique : Unique 1 route_absorb_kinds.ps route_absorb_kinds.r route_absorb_reads.Post
route_absorb_unique κs a x y e f p q = p ∙ sym q
