-- What the cipher gives has 16 bytes, whatever it is given, and a key schedule 16 for each round and for the start. Assumes nothing.
use mathlib.Core.Path.{◌≡◌, ap₂, ◌∙◌}
use mathlib.Core.Bool.{Bool, true, false}
use mathlib.Core.List.{List}
use Prim.Native.Nat.{ℕ, zero, suc, ◌+◌, ◌*◌, ◌-◌, ◌≤◌}
use native.Mathlib.Omega.{arith}
use lib.Dec.{eqb}
use lib.ListN.{length, get_or, length-append}
use Rattle.octets.specs.Xor.{◌⊕◌}
use Rattle.fips197.specs.Cipher.{sub_bytes, shift_rows, add_round_key, rounds, cipher}
use Rattle.fips197.specs.KeyExpansion.{word, sum, pick, temp, next_word, expand, key_expansion}
use Rattle.fips197.specs.Aes.{aes}
use Rattle.fips197.proofs.Table.{tab_length}

pub cipher_length : (nr : ℕ) (w s : List ℕ) → length (cipher nr w s) ≡ 16
unfolding cipher add_round_key
cipher_length nr w s = tab_length 16 (λ i. get_or (shift_rows (sub_bytes (rounds w (add_round_key s w 0) (nr - 1)))) i 0 ⊕ get_or w (16 * nr + i) 0)

pub aes_length : (key block : List ℕ) → length (aes key block) ≡ 16
unfolding aes
aes_length key block = either (eqb (length key) 16)
  where
    either : (b : Bool) → length (pick b (cipher 10 (key_expansion 4 10 key) block) (cipher 14 (key_expansion 8 14 key) block)) ≡ 16
    either true = cipher_length 10 (key_expansion 4 10 key) block
    either false = cipher_length 14 (key_expansion 8 14 key) block

sum_length : (a b : List ℕ) → length (sum a b) ≡ 4
unfolding sum
sum_length a b = tab_length 4 (λ j. get_or a j 0 ⊕ get_or b j 0)

expand_length : (nk : ℕ) (key : List ℕ) (n : ℕ) → length (expand nk key n) ≡ length key + 4 * n
unfolding expand
expand_length nk key zero = omega arith
expand_length nk key (suc n) =
    let w : List ℕ = expand nk key n in
    length-append w (next_word nk w (nk + n)) ∙ ap₂ ◌+◌ (expand_length nk key n) (sum_length (word w (nk + n - nk)) (temp nk (nk + n) (word w (nk + n - 1)))) ∙ omega arith

pub schedule_length : (nk nr : ℕ) (key : List ℕ) → length key ≡ 4 * nk → nk ≤ 4 * (nr + 1) → length (key_expansion nk nr key) ≡ 16 * (nr + 1)
unfolding key_expansion
schedule_length nk nr key long room = expand_length nk key (4 * (nr + 1) - nk) ∙ omega arith
