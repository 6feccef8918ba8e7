-- For each public function, two answers that meet its contract, as the checker reads it, are equal. Assumes nothing.
use Rattle.std.proofs.Common.{sym, ◌∙◌}
use Rattle.logic.specs.Promise.{Unique}
use Rattle.field.proofs.field_element.FieldElement.zero.Kinds as zero_kinds
use Rattle.field.proofs.field_element.FieldElement.zero.Reads as zero_reads
use Rattle.field.proofs.field_element.FieldElement.unit.Kinds as unit_kinds
use Rattle.field.proofs.field_element.FieldElement.unit.Reads as unit_reads
use Rattle.field.proofs.field_element.FieldElement.x_neg_128.Kinds as x_neg_128_kinds
use Rattle.field.proofs.field_element.FieldElement.x_neg_128.Reads as x_neg_128_reads
use Rattle.field.proofs.field_element.FieldElement.from_bytes.Kinds as from_bytes_kinds
use Rattle.field.proofs.field_element.FieldElement.from_bytes.Reads as from_bytes_reads
use Rattle.field.proofs.field_element.FieldElement.to_bytes.Kinds as to_bytes_kinds
use Rattle.field.proofs.field_element.FieldElement.to_bytes.Reads as to_bytes_reads
use Rattle.field.proofs.field_element.FieldElement.reverse.Kinds as reverse_kinds
use Rattle.field.proofs.field_element.FieldElement.reverse.Reads as reverse_reads
use Rattle.field.proofs.field_element.FieldElement.add.Kinds as add_kinds
use Rattle.field.proofs.field_element.FieldElement.add.Reads as add_reads
use Rattle.field.proofs.field_element.FieldElement.dot.Kinds as dot_kinds
use Rattle.field.proofs.field_element.FieldElement.dot.Reads as dot_reads
use Rattle.field.proofs.field_element.FieldElement.dot32.Kinds as dot32_kinds
use Rattle.field.proofs.field_element.FieldElement.dot32.Reads as dot32_reads
use Rattle.field.proofs.field_element.FieldElement.mulx.Kinds as mulx_kinds
use Rattle.field.proofs.field_element.FieldElement.mulx.Reads as mulx_reads
use Rattle.field.proofs.field_element.FieldElement.companion.Kinds as companion_kinds
use Rattle.field.proofs.field_element.FieldElement.companion.Reads as companion_reads
use Rattle.field.proofs.field_element.FieldElement.rf_add.Kinds as rf_add_kinds
use Rattle.field.proofs.field_element.FieldElement.rf_add.Reads as rf_add_reads
use Rattle.field.proofs.field_element.FieldElement.rf_mul.Kinds as rf_mul_kinds
use Rattle.field.proofs.field_element.FieldElement.rf_mul.Reads as rf_mul_reads
use Rattle.field.proofs.rf.Unreduced.rf_reduce.Kinds as rf_reduce_kinds
use Rattle.field.proofs.rf.Unreduced.rf_reduce.Reads as rf_reduce_reads

pub zero_unique : Unique 0 zero_kinds.ps zero_kinds.r zero_reads.Post
zero_unique κs a x y e f p q = p ∙ sym q

pub unit_unique : Unique 0 unit_kinds.ps unit_kinds.r unit_reads.Post
unit_unique κs a x y e f p q = p ∙ sym q

pub x_neg_128_unique : Unique 0 x_neg_128_kinds.ps x_neg_128_kinds.r x_neg_128_reads.Post
x_neg_128_unique κs a x y e f p q = p ∙ sym q

pub from_bytes_unique : Unique 0 from_bytes_kinds.ps from_bytes_kinds.r from_bytes_reads.Post
from_bytes_unique κs a x y e f p q = p ∙ sym q

pub to_bytes_unique : Unique 0 to_bytes_kinds.ps to_bytes_kinds.r to_bytes_reads.Post
to_bytes_unique κs a x y e f p q = p ∙ sym q

pub reverse_unique : Unique 0 reverse_kinds.ps reverse_kinds.r reverse_reads.Post
reverse_unique κs a x y e f p q = p ∙ sym q

pub add_unique : Unique 0 add_kinds.ps add_kinds.r add_reads.Post
add_unique κs a x y e f p q = p ∙ sym q

pub dot_unique : Unique 0 dot_kinds.ps dot_kinds.r dot_reads.Post
dot_unique κs a x y e f p q = p ∙ sym q

pub dot32_unique : Unique 0 dot32_kinds.ps dot32_kinds.r dot32_reads.Post
dot32_unique κs a x y e f p q = p ∙ sym q

pub mulx_unique : Unique 0 mulx_kinds.ps mulx_kinds.r mulx_reads.Post
mulx_unique κs a x y e f p q = p ∙ sym q

pub companion_unique : Unique 0 companion_kinds.ps companion_kinds.r companion_reads.Post
companion_unique κs a x y e f p q = p ∙ sym q

pub rf_add_unique : Unique 0 rf_add_kinds.ps rf_add_kinds.r rf_add_reads.Post
rf_add_unique κs a x y e f p q = p ∙ sym q

pub rf_mul_unique : Unique 0 rf_mul_kinds.ps rf_mul_kinds.r rf_mul_reads.Post
rf_mul_unique κs a x y e f p q = p ∙ sym q

pub rf_reduce_unique : Unique 0 rf_reduce_kinds.ps rf_reduce_kinds.r rf_reduce_reads.Post
rf_reduce_unique κs a x y e f p q = p ∙ sym q
