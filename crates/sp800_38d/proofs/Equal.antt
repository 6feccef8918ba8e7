-- GHASH by way of POLYVAL is SP 800-38D's GHASH, for any key and any bytes. Assumes nothing.
use mathlib.Core.Path.{◌≡◌, refl, sym, ap, ap₂, ◌∙◌, subst}
use mathlib.Core.List.{List, [], ◌∷◌, ◌++◌, reverse, map}
use Prim.Native.Nat.{ℕ, zero, suc, ◌+◌, ◌-◌, ◌/◌, ◌^◌, ◌<◌, ◌≤◌}
use native.Mathlib.Nat.{min-le_left}
use native.Mathlib.Omega.{arith}
use lib.ListN.{length, take, drop, replicate, length-append, length-replicate, length-take}
use lib.Pow.{pow_pos}
use Rattle.octets.specs.Xor.{◌⊕◌}
use Rattle.gf2.specs.Polyval.{mulx, dot}
use Rattle.octets.specs.Numbers.{number, bytes_of}
use Rattle.octets.proofs.Xor.{⊕-lt}
use Rattle.gf2.proofs.Dot.{dot_lt}
use Rattle.octets.proofs.Numbers.{Bytes, bytes_zeros, bytes_++, bytes_take, bytes_drop, bytes_of-number, number_zeros}
use Rattle.gf2.proofs.Roots.{Elements}
use Rattle.rfc8452.specs.Machine.{step, run, polyval}
use Rattle.rfc8452.specs.Blocks.{blocks_n, blocks}
use Rattle.sp800_38d.specs.Ghash.{ghash_from, ghash_of, bit_string, bit_blocks_n, bit_blocks}
use Rattle.rfc8452.specs.AppendixA.{reversed, key_for}
use Rattle.rfc8452.proofs.Reversed.{reversed_lt}
use Rattle.sp800_38d.proofs.Product.{product_is}

-- algorithm 2 is the machine's run under mulX(H)
pub ghash_run : (h y : ℕ) (xs : List ℕ) → h < 2 ^ 128 → y < 2 ^ 128 → Elements xs → ghash_from h y xs ≡ run (mulx h) y xs
unfolding ghash_from run step
ghash_run h y [] lh ly e = refl
ghash_run h y (x ∷ xs) lh ly e =
    let s : ℕ = dot (y ⊕ x) (mulx h) in
    ap (λ z. ghash_from h z xs) (product_is (y ⊕ x) h (⊕-lt 128 y x ly e.0) lh) ∙ ghash_run h s xs lh (dot_lt (y ⊕ x) (mulx h)) e.1

-- bytes with zeros up to sixteen
module _ (s : List ℕ) (b : Bytes s) (few : length s ≤ 16) where
  filled_length : length (s ++ replicate (16 - length s) 0) ≡ 16
  filled_length = length-append s (replicate (16 - length s) 0) ∙ ap (λ n. length s + n) (length-replicate {A = ℕ} (16 - length s) 0) ∙ omega arith

  filled_bytes : bytes_of 16 (number s) ≡ s ++ replicate (16 - length s) 0
  filled_bytes =
      ap₂ bytes_of (sym filled_length) (sym (number_zeros s (16 - length s)))
      ∙ bytes_of-number (s ++ replicate (16 - length s) 0) (bytes_++ s (replicate (16 - length s) 0) b (bytes_zeros (16 - length s)))

-- SP 800-38D's blocks are the reversed ones
blocks-reversed : (n : ℕ) (s : List ℕ) → Bytes s → bit_blocks_n n s ≡ map reversed (blocks_n n s)
unfolding bit_blocks_n blocks_n
blocks-reversed zero s b = refl
blocks-reversed (suc n) s b =
    let t : List ℕ = take 16 s in
    let few : length t ≤ 16 = subst (λ k. k ≤ 16) (sym (length-take 16 s)) (min-le_left 16 (length s)) in
    ap₂ ◌∷◌ (ap (λ l. number (reverse l)) (sym (filled_bytes t (bytes_take 16 s b) few))) (blocks-reversed n (drop 16 s) (bytes_drop 16 s b))

pub bit_blocks_lem : (s : List ℕ) → Bytes s → bit_blocks s ≡ map reversed (blocks s)
unfolding bit_blocks blocks
bit_blocks_lem s b = blocks-reversed ((length s + 15) / 16) s b

reversed_elements : (xs : List ℕ) → Elements (map reversed xs)
reversed_elements [] = tt
reversed_elements (x ∷ xs) = (reversed_lt x, reversed_elements xs)

-- the key's bits
key_bits : (key : List ℕ) → Bytes key → length key ≡ 16 → bit_string key ≡ reversed (number key)
key_bits key b long = ap (λ l. number (reverse l)) (sym (bytes_of-number key b) ∙ ap (λ n. bytes_of n (number key)) long)

-- what a record that start has made holds after s is SP 800-38D's value, and further feeds go on from it
pub ghash_fed : (key s : List ℕ) (y : ℕ) → Bytes key → length key ≡ 16 → Bytes s → y < 2 ^ 128
    → run (key_for key) y (map reversed (blocks s)) ≡ ghash_from (bit_string key) y (bit_blocks s)
ghash_fed key s y bk long bs ly =
    let h : ℕ = reversed (number key) in
    sym (ghash_run h y (map reversed (blocks s)) (reversed_lt (number key)) ly (reversed_elements (blocks s)))
    ∙ ap₂ (λ k xs. ghash_from k y xs) (sym (key_bits key bk long)) (sym (bit_blocks_lem s bs))

-- the theorem: the POLYVAL form is GHASH
pub ghash_is : (key s : List ℕ) → Bytes key → length key ≡ 16 → Bytes s → polyval (key_for key) (map reversed (blocks s)) ≡ ghash_of (bit_string key) (bit_blocks s)
ghash_is key s bk long bs = ghash_fed key s 0 bk long bs (pow_pos 128)
