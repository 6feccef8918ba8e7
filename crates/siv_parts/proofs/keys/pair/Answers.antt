-- `siv_parts::keys::pair` meets its contract. Assumes nothing.
use Rattle.std.proofs.Common.{◌≡◌, ℕ, List, ◌++◌, length, take, ap, ◌∙◌, ap₂, length-take-le, arith, rules}
use Rattle.std.specs.Int.{w32}
use Rattle.octets.proofs.Endian.{to_le}
use Rattle.aead.specs.Cipher.{encrypted}
use Rattle.siv_parts.proofs.keys.pair.Goals as goal

pub returns : goal.returns
returns c =
    let a = c.args in
    let f = encrypted a.given.now in
    let first = c.encrypt-first.ensures ∙ ap f (c.joined.ensures ∙ ap (λ (n : List ℕ). n ++ a.nonce) (c.to_le_bytes.ensures ∙ to_le w32 a.i)) in
    let second = c.encrypt-second.ensures ∙ ap f (c.joined-2.ensures ∙ ap (λ (n : List ℕ). n ++ a.nonce) (c.to_le_bytes-2.ensures ∙ to_le w32 a.j)) in
    c.joined-3.ensures ∙ ap₂ (λ (x y : List ℕ). take 8 x ++ take 8 y) first second

pub joined-requires-3 : goal.joined-requires-3
joined-requires-3 c =
    let first : length c.encrypt-first.result ≡ 16 = search rules in
    let second : length c.encrypt-second.result ≡ 16 = search rules in
    (omega arith, omega (arith, length-take-le 8 c.encrypt-first.result (omega (arith, first)), length-take-le 8 c.encrypt-second.result (omega (arith, second))))
