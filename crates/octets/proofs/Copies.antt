-- The laws of `copied`, and of the other spellings of bytes over a buffer. Assumes nothing.
use Prim.Native.Nat.{ℕ, zero, suc, ◌+◌, ◌-◌, ◌≤◌, ◌<◌, min}
use mathlib.Core.Path.{◌≡◌, refl, sym, ap, ◌∙◌}
use mathlib.Core.List.{List, [], ◌∷◌, ◌++◌, append_assoc, append-nil}
use native.Mathlib.Nat.{not-suc-le-zero, le_of_suc-le-suc, zero-add, min_comm}
use native.Mathlib.Omega.{arith}
use native.Mathlib.Numerals.{add-one}
use lib.ListN.{length, get_or, set, take, drop, length-take, length-drop, drop_of_length-le}
use lib.Seq.{take_all, length-take-le, drop-drop, paste, paste-zero}
use Rattle.octets.specs.Places.{placed, over}
use Rattle.octets.specs.Strings.{copied}
use Rattle.octets.proofs.Parts.{part_rest, part_home, take_front}

-- it fits: it stands in front, whole
pub copied_fits : (src dst : List ℕ) → length src ≤ length dst → copied src dst ≡ over src dst
unfolding copied
copied_fits src dst h = ap (λ (l : List ℕ). over l dst) (take_all (length dst) src h)

-- it fills dst: nothing of that is left
pub copied_fills : (src dst : List ℕ) → length src ≡ length dst → copied src dst ≡ src
copied_fills src dst h = copied_fits src dst (omega arith) ∙ ap (λ (l : List ℕ). src ++ l) (drop_of_length-le dst {i = length src} (omega arith)) ∙ append-nil src

one_more : (s d : List ℕ) (i : ℕ) → i < length s → i < length d → set (take i s ++ drop i d) i (get_or s i 0) ≡ take (suc i) s ++ drop (suc i) d
one_more [] d i h k = absurd (not-suc-le-zero h)
one_more (x ∷ s) [] i h k = absurd (not-suc-le-zero k)
one_more (x ∷ s) (y ∷ d) zero h k = refl
one_more (x ∷ s) (y ∷ d) (suc i) h k = ap (λ (l : List ℕ). x ∷ l) (one_more s d i (le_of_suc-le-suc h) (le_of_suc-le-suc k))

-- a turn of the loop that copies byte by byte, and its end: the part of s that fits stands in front
pub copy_turn : (s d out : List ℕ) (i v : ℕ) → i < length s → i < length d → out ≡ take i s ++ drop i d → v ≡ get_or s i 0
    → set out i v ≡ take (i + 1) s ++ drop (i + 1) d
copy_turn s d out i v h k e ev = (λ j. set (e j) i (ev j)) ∙ one_more s d i h k ∙ ap (λ n. take n s ++ drop n d) (sym (add-one i))

pub copy_reached : (n : ℕ) (s d : List ℕ) → n ≡ min (length s) (length d) → take n s ++ drop n d ≡ copied s d
unfolding copied
copy_reached n s d e =
    let whole : n ≡ length (take (length d) s) = e ∙ min_comm (length s) (length d) ∙ sym (length-take (length d) s) in
    ap (λ k. take k s ++ drop k d) whole ∙ ap (λ (l : List ℕ). l ++ drop (length (take (length d) s)) d) (take_front (length d) s)

-- at the front is at place 0
pub over_placed : (s out : List ℕ) → over s out ≡ placed out 0 s
over_placed s out = ap (λ n. s ++ drop n out) (sym (zero-add (length s)))

-- the kit's spelling, which counts what it takes
pub paste_placed : (d : List ℕ) (at : ℕ) (s : List ℕ) (n : ℕ) → n ≤ length s → paste d at s n ≡ placed d at (take n s)
paste_placed d at s n h =
    append_assoc (take at d) (take n s) (drop (at + n) d) ∙ ap (λ k. take at d ++ (take n s ++ drop (at + k) d)) (sym (length-take-le n s h))

-- s copied over the end of d that starts at a place, as code lends that end, of n - at bytes, and takes it back
module _ (s d : List ℕ) (at : ℕ) {n : ℕ} (whole : length d ≡ n) where
  back : {part : List ℕ} → part ≡ copied s (take (n - at) (drop at d)) → take at d ++ (part ++ drop (n - at) (drop at d)) ≡ take at d ++ copied s (drop at d)
  back {part} e =
      ap (λ k. take at d ++ (part ++ drop (k - at) (drop at d))) (sym whole) ∙ part_home at d part
      ∙ ap (λ (l : List ℕ). take at d ++ l) (e ∙ ap (λ k. copied s (take (k - at) (drop at d))) (sym whole) ∙ ap (copied s) (part_rest at d))

  -- with room for all of it
  pub copied_at : {part : List ℕ} → at + length s ≤ n → part ≡ copied s (take (n - at) (drop at d)) → take at d ++ (part ++ drop (n - at) (drop at d)) ≡ placed d at s
  copied_at h e =
      back e ∙ ap (λ (l : List ℕ). take at d ++ l)
      (copied_fits s (drop at d) (rw length-drop (omega arith)) ∙ ap (λ (l : List ℕ). s ++ l) (drop-drop (length s) at d))

  -- as much of it as there is room for
  pub copied-within : {part : List ℕ} → part ≡ copied s (take (n - at) (drop at d))
      → take at d ++ (part ++ drop (n - at) (drop at d)) ≡ paste d at s (min (length s) (n - at))
  copied-within e =
      let k : ℕ = min (length s) (n - at) in
      let room : k ≡ min (length s) (length (drop at d)) = ap (min (length s)) (ap (λ m. m - at) (sym whole) ∙ sym (length-drop at d)) in
      back e ∙ ap (λ (l : List ℕ). take at d ++ l) (sym (copy_reached k s (drop at d) room) ∙ ap (λ (l : List ℕ). take k s ++ l) (drop-drop k at d))
      ∙ sym (append_assoc (take at d) (take k s) (drop (at + k) d))

  -- where the place is behind the end there is room for nothing
  pub copied_nowhere : n ≤ at → d ≡ paste d at s (min (length s) (n - at))
  copied_nowhere h = let none : 0 ≡ min (length s) (n - at) = omega arith in paste-zero d at s ∙ ap (paste d at s) none
