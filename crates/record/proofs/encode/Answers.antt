-- `record::encode` meets its contract. Assumes nothing.
use Rattle.std.proofs.Common.{rules, [], ◌∷◌, ap, ◌∙◌, ◌≡◌, ◌++◌, length}
use Rattle.std.specs.Int.{w64}
use Rattle.std.specs.List.{flat_map}
use Rattle.octets.proofs.Endian.{to_le}
use Rattle.polyval.proofs.KeyTurns.{length_mapped}
use Rattle.feeding.specs.Key.{power_count}
use Rattle.record.specs.Bytes.{element_bytes, record_bytes}
use Rattle.record.proofs.Arrays.{mapped}
use Rattle.record.proofs.Powers.{powers_flat}
use Rattle.record.proofs.encode.Goals as goal
use Rattle.record.proofs.encode.Goals.{Start}

powers_length : (c : Start) → length c.args.h.key.powers ≡ power_count
powers_length c = search (rules, length_mapped)

pub returns : goal.returns
unfolding record_bytes
returns c =
    let ps = c.args.h.key.powers in
    let pairs = mapped _ _ ps c.map-powers.result _ (λ p. element_bytes p.h ∷ element_bytes p.d ∷ []) c.map-powers.ensures.items (powers_length (goal.at.returns c).Start) (λ p q x y called. search rules) in
    let key = c.copy_from_slice.ensures.after ∙ c.as_flattened-2.ensures.value ∙ ap (flat_map (λ x. x)) (c.as_flattened.ensures.value ∙ ap (flat_map (λ x. x)) pairs) ∙ powers_flat ps in
    let acc = c.copy_from_slice-2.ensures.after ∙ c.to_bytes.ensures in
    let count = c.copy_from_slice-4.ensures.after ∙ c.to_le_bytes.ensures ∙ to_le w64 c.args.h.count in
    λ i. key i ++ (acc i ++ (c.copy_from_slice-3.ensures.after i ++ count i))
