-- `field::FieldElement::rf_add` meets its contract. Assumes nothing.
use Rattle.std.proofs.Common.{ap, ◌∙◌, arith}
use Rattle.field.specs.Rf.{plus_product}
use Rattle.field.proofs.RfWords.{with_f, add_words}
use Rattle.field.proofs.field_element.FieldElement.rf_add.Goals as goal

pub returns : goal.returns
returns c =
    let m = c.args.self in
    let h = c.args.h in
    let d = c.args.d in
    let sum = c.args.sum in
    let with-r = c.plus_product-in_r.ensures ∙ ap (λ e. plus_product e m.hi h.hi) c.plus_product.ensures in
    let with-f = c.plus_product-in_f.ensures ∙ ap (λ e. plus_product e m.hi h.lo) c.plus_product-2.ensures ∙ ap (λ e. with_f m h d sum e.multiplies) with-r in
    (λ i. record { r = (with-r i).element; f = (with-f i).element; multiplies = (with-f i).multiplies })
    ∙ add_words m h d sum
    (record { lo = omega arith; hi = omega arith })
    (record { lo = omega arith; hi = omega arith })
    (record { lo = omega arith; hi = omega arith })
    (record { lo = omega arith; hi = omega arith })
    (record { lo = omega arith; hi = omega arith })
