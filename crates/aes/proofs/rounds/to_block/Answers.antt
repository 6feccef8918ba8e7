-- `aes::rounds::to_block` meets its contract. Assumes nothing.
use Rattle.std.proofs.Common.{◌≡◌, ℕ, List, [], ◌∷◌, ◌<◌, length, get_or, ap, ◌∙◌, append-nil, flat_map, arith}
use borrow.Author.Rules.{rules}
use Rattle.std.specs.Int.{w32, to_le_bytes}
use Rattle.octets.specs.Numbers.{bytes_of}
use Rattle.octets.proofs.Endian.{to_le}
use Rattle.aes.proofs.Words.{beside}
use Rattle.aes.proofs.rounds.to_block.Goals as goal

-- four columns one after the other, each told by its place
joined : (r : List (List ℕ)) → length r ≡ 4 → flat_map (λ x. x) r ≡ beside (get_or r 0 []) (get_or r 1 []) (get_or r 2 []) (get_or r 3 [])
joined [] h = absurd (omega (arith, h))
joined (a ∷ []) h = absurd (omega (arith, h))
joined (a ∷ b ∷ []) h = absurd (omega (arith, h))
joined (a ∷ b ∷ d ∷ []) h = absurd (omega (arith, h))
joined (a ∷ b ∷ d ∷ e ∷ []) h = ap (λ (l : List ℕ). beside a b d l) (append-nil e)
joined (a ∷ b ∷ d ∷ e ∷ f ∷ r) h = absurd (omega (arith, h))

pub returns : goal.returns
returns c =
    let s = c.args.s in
    let r = c.map-columns.result in
    let items = c.map-columns.ensures.items in
    let whole = rw c.unwrap.ensures at c.as_array.ensures.cases in
    let each : (k : ℕ) → k < 4 → get_or r k [] ≡ bytes_of 4 (get_or s k 0) =
    λ k h. let told : get_or r k [] ≡ to_le_bytes w32 (get_or s k 0) = let called = items.at k 0 [] h in search rules in told ∙ to_le w32 (get_or s k 0) in
    whole.same ∙ c.as_flattened.ensures.value ∙ joined r items.long
    ∙ (λ i. beside (each 0 (omega arith) i) (each 1 (omega arith) i) (each 2 (omega arith) i) (each 3 (omega arith) i))
