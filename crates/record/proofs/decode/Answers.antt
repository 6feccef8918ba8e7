-- `record::decode` meets its contract. Assumes nothing.
use Rattle.std.proofs.Common.{rules, ◌≡◌, ◌+◌, ◌-◌, ◌*◌, length, take, drop, length-drop, sym, ap, ◌∙◌, arith}
use Rattle.std.proofs.Math.Seq.{length-take-le, take-take}
use native.Mathlib.Nat.{zero-add}
use Rattle.std.specs.Int.{w64}
use Rattle.octets.specs.Numbers.{number}
use Rattle.octets.proofs.Endian.{from_le}
use Rattle.field.specs.Element.{element}
use Rattle.feeding.specs.Key.{power_count}
use Rattle.record.specs.Bytes.{key_size, record_size, power_in, powers_at, record_of}
use Rattle.record.proofs.Arrays.{filled}
use Rattle.record.proofs.Powers.{powers_at-length, powers_at-at, power_from}
use Rattle.record.proofs.decode.Goals as goal
use Rattle.record.proofs.decode.Goals.{Start}

record_length : (c : Start) → length c.args.b ≡ record_size
record_length c = search rules

pub returns : goal.returns
unfolding record_of
returns c =
    let b = c.args.b in
    let long = record_length (goal.at.returns c).Start in
    let powers = filled _ _ c.from_fn.result (λ i. power_in 0 (take (record_size - i * 32) (drop (i * 32) b))) (powers_at power_count 0 b) _ c.from_fn.ensures.items (λ i y q h called. search rules)
    (powers_at-length power_count 0 b) (λ i d h. powers_at-at power_count 0 i b d h ∙ ap (λ j. power_in j b) (zero-add (i * 32)) ∙ sym (power_from (i * 32) (record_size - i * 32) b (omega arith))) in
    let acc = c.block_of.ensures.is ∙ ap (λ s. element (number s)) (take-take 16 40 (drop key_size b) (omega arith)) in
    let held = rw c.unwrap.ensures at c.first_chunk.ensures.cases in
    let pending = held.same ∙ take-take 16 24 (drop (key_size + 16) b) (omega arith) in
    let last = rw c.unwrap-2.ensures at c.first_chunk-2.ensures.cases in
    let bytes : c.unwrap-2.result.now ≡ take 8 (drop (key_size + 32) b) = last.same ∙ take-take 8 8 (drop (key_size + 32) b) (omega arith) in
    let eight = ap length bytes ∙ length-take-le 8 (drop (key_size + 32) b) (rw length-drop (omega (arith, long))) in
    let count = c.from_le_bytes.ensures ∙ from_le w64 c.unwrap-2.result.now eight ∙ ap number bytes in
    λ i. record { key = record { powers = powers i }; acc = acc i; pending = pending i; count = count i }
