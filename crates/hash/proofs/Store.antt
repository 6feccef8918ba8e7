-- Bytes kept at the front of a block of zeros, and a message cut where its pending bytes fill a block. Assumes nothing.
use mathlib.Core.Path.{◌≡◌, sym, ap, ◌∙◌}
use mathlib.Core.List.{List, [], ◌++◌, append_assoc, append-nil}
use Prim.Native.Nat.{ℕ, ◌+◌, ◌-◌, ◌*◌, ◌/◌, ◌%◌, ◌≤◌, ◌<◌}
use native.Mathlib.Omega.{arith}
use lib.ListN.{length, take, drop, replicate, length-append}
use lib.Seq.{take_at, take-add, take-append-add, drop-append-add, length-take-le}
use Rattle.rfc8452.specs.Blocks.{blocks}
use Rattle.rfc8452.proofs.Cut.{blocks_++}
use Rattle.feeding.specs.Record.{filled}
use Rattle.feeding.specs.Calls.{whole_part, short_part}

-- a block that is full
pub filled_full : (t : List ℕ) → length t ≡ 16 → filled t ≡ t
filled_full t e = let none : 16 - length t ≡ 0 = omega arith in ap (λ k. t ++ replicate {A = ℕ} k 0) none ∙ append-nil t

-- the bytes at the front of the zeros
pub filled_front : (t : List ℕ) (n : ℕ) → length t ≡ n → take n (filled t) ≡ t
filled_front t n e = take_at t (replicate (16 - length t) 0) n e

-- pending bytes p and a piece s: too few for a block
module _ (d : List ℕ) (few : length d < 16) where
  none_whole : length d / 16 * 16 ≡ 0
  none_whole = omega arith

  pub few_whole : whole_part d ≡ []
  few_whole = ap (λ k. take k d) none_whole

  pub few_short : short_part d ≡ d
  few_short = ap (λ k. drop k d) none_whole

-- or enough: `room` bytes of s complete the block, and whole blocks go up to `end`
module _ (p s : List ℕ) (count room end : ℕ) (at_count : length p ≡ count) (completes : count + room ≡ 16) (enough : room ≤ length s)
    (ends : end ≡ length s - (length s - room) % 16) where
  cut : length (p ++ s) / 16 * 16 ≡ length p + end
  cut = omega (arith, length-append p s)

  abbrev pub completed : List ℕ
  completed = p ++ take room s

  pub completed_length : length completed ≡ 16
  completed_length = length-append p (take room s) ∙ ap (λ n. length p + n) (length-take-le room s enough) ∙ omega arith

  pub enough_whole : whole_part (p ++ s) ≡ completed ++ take (end - room) (drop room s)
  enough_whole =
      let parts : room + (end - room) ≡ end = omega arith in
      ap (λ n. take n (p ++ s)) cut ∙ take-append-add p s end
      ∙ ap (λ t. p ++ t) (ap (λ n. take n s) (sym parts) ∙ take-add room (end - room) s) ∙ sym (append_assoc p (take room s) (take (end - room) (drop room s)))

  pub enough_blocks : blocks (whole_part (p ++ s)) ≡ blocks completed ++ blocks (take (end - room) (drop room s))
  enough_blocks = ap blocks enough_whole ∙ blocks_++ completed (take (end - room) (drop room s)) (ap (λ n. n % 16) completed_length)

  pub enough_short : short_part (p ++ s) ≡ drop end s
  enough_short = ap (λ n. drop n (p ++ s)) cut ∙ drop-append-add p s end
