-- `siv_parts::counter::next_counter` meets its contract. Assumes nothing.
use Rattle.std.proofs.Common.{◌≡◌, ℕ, ◌+◌, ◌%◌, ◌^◌, List, ◌++◌, length, drop, ap, ◌∙◌, arith, rules}
use Rattle.std.proofs.Math.Seq.{length-take-le}
use Rattle.std.specs.Int.{w32}
use Rattle.octets.specs.Numbers.{number, bytes_of}
use Rattle.octets.proofs.Endian.{from_le, to_le}
use Rattle.rfc8452.specs.Counter.{next_counter}
use Rattle.siv_parts.proofs.counter.next_counter.Goals as goal

pub returns : goal.returns
unfolding next_counter
returns c =
    let b = c.args.b in
    let sixteen : length b ≡ 16 = search rules in
    let front = rw c.unwrap.ensures at c.first_chunk.ensures.cases in
    let four = ap length front.same ∙ length-take-le 4 b (omega (arith, sixteen)) in
    let count = c.from_le_bytes-count.ensures ∙ from_le w32 c.unwrap.result.now four ∙ ap number front.same in
    ap (λ (l : List ℕ). l ++ drop 4 b) (c.copy_from_slice.ensures.after ∙ c.to_le_bytes.ensures ∙ to_le w32 _ ∙ ap (λ n. bytes_of 4 ((n + 1) % 2 ^ 32)) count)
