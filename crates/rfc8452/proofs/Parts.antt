-- Blocks one by one, and the blocks of a part of a string and of what stands behind it. Assumes nothing.
use mathlib.Core.Path.{◌≡◌, refl, sym, ap, ap₂, ◌∙◌, subst}
use mathlib.Core.List.{List, [], ◌∷◌}
use Prim.Native.Nat.{ℕ, zero, suc, ◌+◌, ◌-◌, ◌*◌, ◌/◌, ◌<◌}
use native.Mathlib.Nat.{zero-lt-suc}
use native.Mathlib.Omega.{arith}
use lib.ListN.{length, take, drop, length-drop}
use lib.Seq.{take-take, take-nil, drop-nil, drop-drop}
use Rattle.octets.specs.Numbers.{number}
use Rattle.octets.proofs.Numbers.{Bytes, bytes_drop}
use Rattle.octets.proofs.Parts.{drop-take}
use Rattle.gf2.proofs.Roots.{Elements}
use Rattle.rfc8452.specs.Blocks.{blocks_n, blocks}
use Rattle.rfc8452.proofs.Cut.{blocks-none, block_lt}

-- a string that is not empty is its first block, whole or short, and the blocks behind it
pub blocks_cons : (s : List ℕ) → 0 < length s → blocks s ≡ number (take 16 s) ∷ blocks (drop 16 s)
unfolding blocks blocks_n
blocks_cons s some =
    let e : (length s + 15) / 16 ≡ suc ((length s - 16 + 15) / 16) = omega arith in
    ap (λ k. blocks_n k s) e ∙ ap (λ k. number (take 16 s) ∷ blocks_n ((k + 15) / 16) (drop 16 s)) (sym (length-drop 16 s))

blocks_n_length : (n : ℕ) (s : List ℕ) → length (blocks_n n s) ≡ n
unfolding blocks_n
blocks_n_length zero s = refl
blocks_n_length (suc n) s = ap suc (blocks_n_length n (drop 16 s))

pub blocks-length : (s : List ℕ) → length (blocks s) ≡ (length s + 15) / 16
unfolding blocks
blocks-length s = blocks_n_length ((length s + 15) / 16) s

-- the first n blocks
pub take-blocks : (n : ℕ) (s : List ℕ) → blocks (take (n * 16) s) ≡ take n (blocks s)
take-blocks zero s = blocks-none
take-blocks (suc n) [] = ap blocks (take-nil (suc n * 16)) ∙ blocks-none ∙ sym (ap (take (suc n)) blocks-none)
take-blocks (suc n) (x ∷ s) =
    let e : suc n * 16 ≡ 16 + n * 16 = omega arith in
    let first : take 16 (take (16 + n * 16) (x ∷ s)) ≡ take 16 (x ∷ s) = take-take 16 (16 + n * 16) (x ∷ s) (omega arith) in
    let k : 16 + n * 16 ≡ suc (15 + n * 16) = omega arith in
    let some : 0 < length (take (16 + n * 16) (x ∷ s)) = subst (λ m. 0 < length (take m (x ∷ s))) (sym k) (zero-lt-suc _) in
    ap (λ m. blocks (take m (x ∷ s))) e ∙ blocks_cons (take (16 + n * 16) (x ∷ s)) some
    ∙ ap₂ (λ f r. number f ∷ blocks r) first (drop-take 16 (n * 16) (x ∷ s)) ∙ ap (λ bs. number (take 16 (x ∷ s)) ∷ bs) (take-blocks n (drop 16 (x ∷ s)))
    ∙ sym (ap (take (suc n)) (blocks_cons (x ∷ s) (zero-lt-suc (length s))))

-- those behind them
pub drop-blocks : (n : ℕ) (s : List ℕ) → blocks (drop (n * 16) s) ≡ drop n (blocks s)
drop-blocks zero s = refl
drop-blocks (suc n) [] = ap blocks (drop-nil (suc n * 16)) ∙ blocks-none ∙ sym (ap (drop (suc n)) blocks-none)
drop-blocks (suc n) (x ∷ s) =
    let e : suc n * 16 ≡ 16 + n * 16 = omega arith in
    ap blocks (ap (λ m. drop m (x ∷ s)) e ∙ sym (drop-drop (n * 16) 16 (x ∷ s))) ∙ drop-blocks n (drop 16 (x ∷ s))
    ∙ sym (ap (drop (suc n)) (blocks_cons (x ∷ s) (zero-lt-suc (length s))))

-- every block is an element
elements : (n : ℕ) (s : List ℕ) → Bytes s → Elements (blocks_n n s)
unfolding blocks_n
elements zero s b = tt
elements (suc n) s b = (block_lt s b, elements n (drop 16 s) (bytes_drop 16 s b))

pub blocks_elements : (s : List ℕ) → Bytes s → Elements (blocks s)
unfolding blocks
blocks_elements s b = elements ((length s + 15) / 16) s b
