-- The cases of the call, proved of the definitions. Assumes nothing.
use mathlib.Core.Path.{◌≡◌, refl, ap, ◌∙◌}
use mathlib.Core.Bool.{cond}
use mathlib.Core.List.{List, [], ◌∷◌, ◌++◌, reverse}
use Prim.Native.Nat.{ℕ, ◌+◌, ◌*◌, ◌^◌}
use lib.Dec.{eqb}
use lib.ListN.{replicate}
use borrow.Author.Tests.{ne_eqb}
use Rattle.octets.specs.Numbers.{number, bytes_of}
use Rattle.octets.proofs.Numbers.{bytes_++, bytes_of_bytes}
use Rattle.sp800_38d.specs.Ghash.{bit_blocks_n, bit_blocks}
use Rattle.field.specs.Element.{value, element}
use Rattle.rfc8452.specs.Machine.{step, run}
use Rattle.rfc8452.specs.Blocks.{blocks_n, blocks}
use Rattle.rfc8452.proofs.Cases.{key_for_lem}
use Rattle.std.proofs.Common.{Ok, Err}
use Rattle.answer.specs.declared.Reason.TheVariants.{KeyLength, NotWholeBlocks}
use Rattle.ghash.specs.declared.parts.Ghash.{Ghash}
use Rattle.ghash.specs.Calls.{start_told, hashed_told, ghash_start_answer, ghash_start_of, fed_of, ghash_tag_of, ghash_answer, hashed_of}
use Rattle.rfc8452.proofs.Reversed.{bytes_reverse}
use Rattle.sp800_38d.proofs.Equal.{ghash_is}
use Rattle.sp800_38d.proofs.Cases.{rfc_ghash}

-- sixteen bytes as the RFC prints them
abbrev printed : ℕ → List ℕ
printed n = reverse (bytes_of 16 n)

-- GHASH(H, X_1, X_2) by the call
pub rfc_ghash_call : hashed_of (printed 0x25629347589242761d31f826ba4b757b) (printed 0x4f4f95668c83dfb6401762bb2d01a262 ++ printed 0xd1a24ddd2721d006bbe45f20d3c9f362)
    ≡ record { answer = 0; tag = printed 0xbd9b3997046731fb96251b91f9c99d7a }
unfolding number bytes_of bit_blocks bit_blocks_n
rfc_ghash_call =
    let key : List ℕ = printed 0x25629347589242761d31f826ba4b757b in
    let s : List ℕ = printed 0x4f4f95668c83dfb6401762bb2d01a262 ++ printed 0xd1a24ddd2721d006bbe45f20d3c9f362 in
    λ i. record {
      answer = 0;
      tag = reverse (bytes_of 16 ((ghash_is key s (bytes_reverse (bytes_of 16 0x25629347589242761d31f826ba4b757b) (bytes_of_bytes 16 0x25629347589242761d31f826ba4b757b)) refl
          (bytes_++ (printed 0x4f4f95668c83dfb6401762bb2d01a262) (printed 0xd1a24ddd2721d006bbe45f20d3c9f362)
          (bytes_reverse (bytes_of 16 0x4f4f95668c83dfb6401762bb2d01a262) (bytes_of_bytes 16 0x4f4f95668c83dfb6401762bb2d01a262))
          (bytes_reverse (bytes_of 16 0xd1a24ddd2721d006bbe45f20d3c9f362) (bytes_of_bytes 16 0xd1a24ddd2721d006bbe45f20d3c9f362))) ∙ rfc_ghash) i));
    }

-- a key of 16 bytes alone is taken; RFC 8452, appendix A: POLYVAL's key for this one
pub sixteen_start : ghash_start_of (printed 0x25629347589242761d31f826ba4b757b)
    ≡ record { answer = 0; ghash = record { key = element (number (printed 0xf6ea96744df0633aec8424b18e26c54a)); acc = record { lo = 0; hi = 0 } } }
unfolding bytes_of
sixteen_start = λ i. record { answer = 0; ghash = record { key = element (key_for_lem i); acc = element 0 } }

pub fifteen_start : (ghash_start_of (replicate 15 7)).answer ≡ 1
fifteen_start = refl

pub seventeen_start : (ghash_start_of (replicate 17 7)).answer ≡ 1
seventeen_start = refl

-- what code returns, told: what was made with answer 0, and a reason's number with zeros
pub start_told_lem : (g : Ghash) → (start_told (Ok g) ≡ record { answer = 0; ghash = g })
    × (start_told (Err KeyLength) ≡ record { answer = 1; ghash = record { key = record { lo = 0; hi = 0 }; acc = record { lo = 0; hi = 0 } } })
start_told_lem g = (refl, refl)

pub hashed_told_lem : (tag : List ℕ) → (hashed_told (Ok tag) ≡ record { answer = 0; tag = tag }) × (hashed_told (Err NotWholeBlocks) ≡ record { answer = 3; tag = replicate 16 0 })
hashed_told_lem tag = (refl, refl)

-- "Any count, hash, tag, record or position it returns is all zero": for every answer that is not 0
otherwise : {A : Type 0} (answer : ℕ) (made none : A) → (answer ≡ 0 → ⊥) → cond (eqb answer 0) made none ≡ none
otherwise answer made none n = ap (λ t. cond t made none) (ne_eqb answer 0 n)

pub refused_start : (key : List ℕ) → (ghash_start_answer key ≡ 0 → ⊥)
    → ghash_start_of key ≡ record { answer = ghash_start_answer key; ghash = record { key = record { lo = 0; hi = 0 }; acc = record { lo = 0; hi = 0 } } }
refused_start key n = otherwise (ghash_start_answer key) _ _ n

pub refused_call : (key s : List ℕ) → (ghash_answer key s ≡ 0 → ⊥) → hashed_of key s ≡ record { answer = ghash_answer key s; tag = replicate 16 0 }
refused_call key s n = otherwise (ghash_answer key s) _ _ n

-- the order of the answers: a bad key before blocks that are not whole
pub key_first : hashed_of [] (7 ∷ []) ≡ record { answer = 1; tag = replicate 16 0 }
key_first = refl

pub then_blocks : hashed_of (replicate 16 0) (7 ∷ []) ≡ record { answer = 3; tag = replicate 16 0 }
then_blocks = refl

pub no_blocks : (hashed_of (replicate 16 7) []).answer ≡ 0
no_blocks = refl

-- a feed keeps the key and absorbs each block reversed, the last short one filled with zeros; the tag is the element's bytes, the last one first
pub feed_step : (h a : ℕ) → fed_of (record { key = element h; acc = element a }) (1 ∷ 2 ∷ [])
    ≡ record { key = element h; acc = element (step (value (element h)) (value (element a)) (2 ^ 120 + 2 * 2 ^ 112)) }
unfolding run blocks blocks_n number bytes_of
feed_step h a = refl

pub tag_reversed : ghash_tag_of (record { key = element 0; acc = element 0x0102 }) ≡ replicate 14 0 ++ (1 ∷ 2 ∷ [])
unfolding bytes_of
tag_reversed = refl
