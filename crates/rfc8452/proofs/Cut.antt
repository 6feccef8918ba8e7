-- Byte strings cut into blocks: two strings one after the other, one block more, and zeros behind a string. Assumes nothing.
use mathlib.Core.Path.{◌≡◌, refl, sym, ap, ap₂, ◌∙◌, subst}
use mathlib.Core.List.{List, [], ◌∷◌, ◌++◌}
use Prim.Native.Nat.{ℕ, zero, suc, ◌+◌, ◌-◌, ◌*◌, ◌/◌, ◌%◌, ◌≤◌, ◌<◌, ◌^◌, min}
use native.Mathlib.Nat.{zero-add, suc-add, min_comm, min-le_left, lt_of_lt_of_le, pow-le-pow_right}
use native.Mathlib.Omega.{arith}
use lib.ListN.{length, take, drop, replicate, length-append, length-take, length-drop}
use lib.Dec.{lit≤}
use lib.Seq.{paste, take-append-le, drop-append-le, take-add, take_all, length-take-le}
use Rattle.octets.specs.Numbers.{number}
use Rattle.octets.proofs.Numbers.{Bytes, bytes_take, number_lt, number_zeros}
use Rattle.octets.proofs.Parts.{take_front, drop_zeros}
use Rattle.rfc8452.specs.Blocks.{blocks_n, blocks}

blocks_n_++ : (m n : ℕ) (s t : List ℕ) → length s ≡ m * 16 → blocks_n (m + n) (s ++ t) ≡ blocks_n m s ++ blocks_n n t
unfolding blocks_n
blocks_n_++ zero n [] t e = ap (λ k. blocks_n k t) (zero-add n)
blocks_n_++ zero n (x ∷ s) t e = absurd (omega arith)
blocks_n_++ (suc m) n s t e =
    ap (λ k. blocks_n k (s ++ t)) (suc-add m n)
    ∙ ap₂ (λ b r. number b ∷ blocks_n (m + n) r) (take-append-le 16 s t (omega arith)) (drop-append-le 16 s t (omega arith))
    ∙ ap (λ bs. number (take 16 s) ∷ bs) (blocks_n_++ m n (drop 16 s) t (length-drop 16 s ∙ omega arith))

-- whole blocks, then any string
pub blocks_++ : (s t : List ℕ) → length s % 16 ≡ 0 → blocks (s ++ t) ≡ blocks s ++ blocks t
unfolding blocks
blocks_++ s t whole =
    let m : (length s + 15) / 16 * 16 ≡ length s = omega arith in
    let n : (length s + length t + 15) / 16 ≡ (length s + 15) / 16 + (length t + 15) / 16 = omega arith in
    ap (λ k. blocks_n k (s ++ t)) (ap (λ k. (k + 15) / 16) (length-append s t) ∙ n)
    ∙ blocks_n_++ ((length s + 15) / 16) ((length t + 15) / 16) s t (sym m)

pub blocks-none : blocks [] ≡ []
unfolding blocks blocks_n
blocks-none = refl

-- one block, whole or short
pub blocks_one : (s : List ℕ) → 0 < length s → length s ≤ 16 → blocks s ≡ number s ∷ []
unfolding blocks blocks_n
blocks_one s some few =
    let one : (length s + 15) / 16 ≡ 1 = omega arith in
    ap (λ k. blocks_n k s) one ∙ ap (λ b. number b ∷ []) (take_all 16 s few)

-- a turn of a loop over whole blocks
pub blocks_turn : (s : List ℕ) (i : ℕ) → i % 16 ≡ 0 → i + 16 ≤ length s → blocks (take (i + 16) s) ≡ blocks (take i s) ++ number (take 16 (drop i s)) ∷ []
blocks_turn s i whole room =
    let long : length (take i s) ≡ i = length-take-le i s (omega arith) in
    let sixteen : length (take 16 (drop i s)) ≡ 16 = length-take-le 16 (drop i s) (rw length-drop (omega arith)) in
    ap blocks (take-add i 16 s) ∙ blocks_++ (take i s) (take 16 (drop i s)) (ap (λ n. n % 16) long ∙ whole)
    ∙ ap (λ bs. blocks (take i s) ++ bs) (blocks_one (take 16 (drop i s)) (omega arith) (omega arith))

-- a block, whole or short, is an element
pub block_lt : (s : List ℕ) → Bytes s → number (take 16 s) < 2 ^ 128
block_lt s bytes =
    lt_of_lt_of_le (number_lt (take 16 s) (bytes_take 16 s bytes)) (subst (λ n. 256 ^ length (take 16 s) ≤ n) power (pow-le-pow_right (lit≤ tt) short))
  where
    power : 256 ^ 16 ≡ 2 ^ 128
    power = refl

    short : length (take 16 s) ≤ 16
    short = subst (λ n. n ≤ 16) (sym (length-take 16 s)) (min-le_left 16 (length s))

-- what has room of a string, stored at the front of zeros
pub pasted_zeros : (s : List ℕ) → paste (replicate 16 0) 0 s (min (length s) (16 - 0)) ≡ take 16 s ++ replicate (16 - length (take 16 s)) 0
pasted_zeros s =
    let short : length (take 16 s) ≡ min (length s) 16 = length-take 16 s ∙ min_comm 16 (length s) in
    ap₂ ◌++◌ (ap (λ n. take n s) (sym short) ∙ take_front 16 s)
    (ap (λ n. drop n (replicate {A = ℕ} 16 0)) (zero-add (min (length s) 16) ∙ sym short) ∙ drop_zeros (length (take 16 s)) 16)

pub number_pasted : (s : List ℕ) → number (paste (replicate 16 0) 0 s (min (length s) (16 - 0))) ≡ number (take 16 s)
number_pasted s = ap number (pasted_zeros s) ∙ number_zeros (take 16 s) (16 - length (take 16 s))
