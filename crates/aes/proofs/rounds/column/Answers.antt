-- `aes::rounds::column` meets its contract. Assumes nothing.
use mathlib.Core.Path.{ap, ◌∙◌}
use Prim.Native.Nat.{ℕ, ◌/◌, ◌%◌, ◌^◌}
use Rattle.octets.specs.Numbers.{bytes_of}
use Rattle.octets.specs.Xor.{◌⊕◌}
use Rattle.fips197.proofs.Sbox.{sbox_lt}
use Rattle.fips197.specs.Cipher.{mix_column}
use Rattle.fips197.specs.Sbox.{sbox}
use Rattle.aes.proofs.Words.{row0, row1, row2, row3, turned, column_law}
use Rattle.aes.proofs.rounds.column.Goals as goal

pub returns : goal.returns
unfolding ◌⊕◌
returns c =
    let a = c.args in
    let x : ℕ = a.a % 256 in
    let y : ℕ = a.b / 2 ^ 8 % 256 in
    let z : ℕ = a.c / 2 ^ 16 % 256 in
    let t : ℕ = a.d / 2 ^ 24 % 256 in
    let q = c.rotate_left.ensures ∙ ap (turned 24 8) c.lookup-q.ensures in
    let r = c.rotate_left-2.ensures ∙ ap (turned 16 16) c.lookup-r.ensures in
    let s = c.rotate_left-3.ensures ∙ ap (turned 8 24) c.lookup-s.ensures in
    (λ i. bytes_of 4 (c.lookup-p.ensures i ⊕ q i ⊕ r i ⊕ s i))
    ∙ column_law (sbox x) (sbox y) (sbox z) (sbox t) (sbox_lt x) (sbox_lt y) (sbox_lt z) (sbox_lt t)
    ∙ (λ i. mix_column (sbox (row0 a.a i)) (sbox (row1 a.b i)) (sbox (row2 a.c i)) (sbox (row3 a.d i)))
