-- Parts of strings, and numbers spelled with the highest byte first. Assumes nothing.
use Prim.Native.Nat.{ℕ, suc, ◌+◌, ◌*◌, ◌-◌, ◌%◌, ◌^◌, ◌≤◌, ◌<◌}
use mathlib.Core.Path.{◌≡◌, refl, sym, ap, ap₂, ◌∙◌}
use mathlib.Core.Bool.{Bool, cond, ◌&&◌}
use mathlib.Core.List.{List, [], ◌∷◌, ◌++◌, reverse, reverse-append, append-nil, append_assoc}
use native.Mathlib.Decide.{dec_le}
use native.Mathlib.Omega.{arith}
use borrow.Author.Tests.{le-leb, lt-leb}
use lib.Bits.{bit_or, or_shifted}
use lib.Dec.{leb}
use lib.ListN.{length, get_or, take, drop, drop_of_length-le}
use Rattle.std.specs.List.{fold}
use Rattle.octets.specs.Numbers.{number}
use Rattle.octets.proofs.Parts.{part_rest}
use Rattle.protocol.specs.Parts.{part_of}
use Rattle.protocol.specs.Words.{spelled_high_first}

-- a part that is there, one that ends before it begins, and one that ends past the end
module _ (s : List ℕ) (a e : ℕ) where
  abbrev picked : Bool → Bool → List ℕ
  picked p q = cond (p && q) (take (e - a) (drop a s)) []

  pub part_inside : a ≤ e → e ≤ length s → take (e - a) (drop a s) ≡ part_of s a e
  part_inside h k = sym (ap₂ picked (le-leb a e h) (le-leb e (length s) k))

  pub part_backwards : e < a → [] ≡ part_of s a e
  part_backwards h = sym (ap (λ (p : Bool). picked p (leb e (length s))) (lt-leb a e h))

  pub part_past : a ≤ e → length s < e → [] ≡ part_of s a e
  part_past h k = sym (ap₂ picked (le-leb a e h) (lt-leb e (length s) k))

-- a part up to the end
pub part_to_the_end : (s : List ℕ) (a : ℕ) → part_of s a (length s) ≡ drop a s
part_to_the_end s a = by_start (dec_le a (length s))
  where
    by_start : Dec (a ≤ length s) → part_of s a (length s) ≡ drop a s
    by_start (yes h) = sym (part_inside s a (length s) h (omega arith)) ∙ part_rest a s
    by_start (no h) = sym (part_backwards s a (length s) (omega (arith, h))) ∙ sym (drop_of_length-le s {i = a} (omega (arith, h)))

pub high_first_none : 0 ≡ spelled_high_first []
unfolding spelled_high_first number
high_first_none = refl

-- one more byte: the others move up by eight bits, and what passes 64 is lost
shifted_in : (n b : ℕ) → b < 256 → bit_or (n % 2 ^ 64 * 256 % 2 ^ 64) b ≡ (b + n * 256) % 2 ^ 64
shifted_in n b h =
    let up : n % 2 ^ 64 * 256 % 2 ^ 64 ≡ n % 2 ^ 56 * 2 ^ 8 = omega arith in
    let sum : n % 2 ^ 56 * 2 ^ 8 + b ≡ (b + n * 256) % 2 ^ 64 = omega arith in
    ap (λ x. bit_or x b) up ∙ or_shifted (n % 2 ^ 56) 8 b h ∙ sum

pub high_first_more : (s : List ℕ) (b : ℕ) → b < 256 → bit_or (spelled_high_first s * 256 % 2 ^ 64) b ≡ spelled_high_first (s ++ (b ∷ []))
unfolding spelled_high_first number
high_first_more s b h = shifted_in (number (reverse s)) b h ∙ sym (ap (λ t. number t % 2 ^ 64) (reverse-append s (b ∷ [])))

-- a number with one more byte behind it
abbrev pub behind : ℕ → ℕ → ℕ
behind x b = bit_or (x * 256 % 2 ^ 64) b

-- the bytes of s, one after another, behind those of t
high_first_fold : (t s : List ℕ) → ((i : ℕ) → get_or s i 0 < 256) → fold behind (spelled_high_first t) s ≡ spelled_high_first (t ++ s)
high_first_fold t [] h = ap spelled_high_first (sym (append-nil t))
high_first_fold t (b ∷ s) h =
    ap (λ x. fold behind x s) (high_first_more t b (h 0))
    ∙ high_first_fold (t ++ (b ∷ [])) s (λ i. h (suc i))
    ∙ ap spelled_high_first (append_assoc t (b ∷ []) s)

pub high_first_folded : (s : List ℕ) → ((i : ℕ) → get_or s i 0 < 256) → fold behind 0 s ≡ spelled_high_first s
high_first_folded s h = ap (λ x. fold behind x s) high_first_none ∙ high_first_fold [] s h
