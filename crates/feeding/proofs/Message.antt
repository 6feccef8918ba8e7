-- The blocks of a message, cut where feeds cut it. Assumes nothing.
use mathlib.Core.Path.{◌≡◌, refl, sym, ap, ap₂, ◌∙◌}
use mathlib.Core.List.{List, [], ◌∷◌, ◌++◌, append_assoc, append-nil}
use Prim.Native.Nat.{ℕ, ◌+◌, ◌-◌, ◌*◌, ◌/◌, ◌%◌, ◌≤◌}
use native.Mathlib.Decide.{dec_le}
use native.Mathlib.Omega.{arith}
use lib.ListN.{length, take, replicate, length-append, length-replicate, length-drop, take-append-drop}
use lib.Seq.{take_at, length-take-le}
use Rattle.rfc8452.specs.Blocks.{blocks}
use Rattle.rfc8452.proofs.Cut.{blocks_one, blocks_++}
use Rattle.octets.proofs.Numbers.{number_zeros}
use Rattle.feeding.specs.Record.{filled}
use Rattle.feeding.specs.Calls.{whole_part, short_part}
use Rattle.feeding.specs.Feeds.{to_blocks}

-- the whole blocks of d, then the short part and what follows
pub whole_length : (d : List ℕ) → length (whole_part d) ≡ length d / 16 * 16
whole_length d = length-take-le (length d / 16 * 16) d (omega arith)

pub cut_blocks : (d rest : List ℕ) → blocks (d ++ rest) ≡ blocks (whole_part d) ++ blocks (short_part d ++ rest)
cut_blocks d rest =
    let n : length (whole_part d) % 16 ≡ 0 = ap (λ k. k % 16) (whole_length d) ∙ omega arith in
    ap (λ t. blocks (t ++ rest)) (sym (take-append-drop (length d / 16 * 16) d)) ∙ ap blocks (append_assoc (whole_part d) (short_part d) rest)
    ∙ blocks_++ (whole_part d) (short_part d ++ rest) n

-- the bytes kept are found again
pub short_length : (d : List ℕ) → length (short_part d) ≡ length d % 16
short_length d = length-drop (length d / 16 * 16) d ∙ omega arith

pub kept_again : (t : List ℕ) → take (length t) (filled t) ≡ t
kept_again t = take_at t (replicate (16 - length t) 0) (length t) refl

-- filling the last block changes no block
pub padded_whole : (s : List ℕ) → length (to_blocks s) % 16 ≡ 0
padded_whole s =
    ap (λ n. n % 16) (length-append s (replicate ((16 - length s % 16) % 16) 0) ∙ ap (λ n. length s + n) (length-replicate {A = ℕ} ((16 - length s % 16) % 16) 0)) ∙ omega arith

pub padded_blocks : (s : List ℕ) → blocks (to_blocks s) ≡ blocks s
padded_blocks s = by_rest (dec_le 1 (length s % 16))
  where
    k : ℕ
    k = (16 - length s % 16) % 16

    t : List ℕ
    t = short_part s

    by_rest : Dec (1 ≤ length s % 16) → blocks (s ++ replicate k 0) ≡ blocks s
    by_rest (no none) = let e : k ≡ 0 = omega (arith, none) in ap (λ n. blocks (s ++ replicate {A = ℕ} n 0)) e ∙ ap blocks (append-nil s)
    by_rest (yes some) =
        let long : length (t ++ replicate {A = ℕ} k 0) ≡ 16 = length-append t (replicate k 0) ∙ ap₂ ◌+◌ (short_length s) (length-replicate {A = ℕ} k 0) ∙ omega arith in
        let one : blocks (t ++ replicate {A = ℕ} k 0) ≡ blocks (t ++ []) =
        blocks_one (t ++ replicate {A = ℕ} k 0) (omega arith) (omega arith) ∙ ap (λ n. n ∷ []) (number_zeros t k)
        ∙ sym (ap blocks (append-nil t) ∙ blocks_one t (omega (arith, short_length s)) (omega (arith, short_length s))) in
        cut_blocks s (replicate k 0) ∙ ap (λ b. blocks (whole_part s) ++ b) one ∙ sym (cut_blocks s []) ∙ ap blocks (append-nil s)
