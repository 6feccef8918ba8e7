-- The key stream: its blocks, its length, and how a loop that masks a text block by block goes on and ends. For any block cipher and any way
-- to the next counter block. Assumes nothing.
use Prim.Native.Nat.{ℕ, zero, suc, ◌+◌, ◌-◌, ◌*◌, ◌/◌, ◌%◌, ◌≤◌, ◌<◌}
use mathlib.Core.Path.{◌≡◌, refl, sym, ap, ap₂, ◌∙◌}
use mathlib.Core.List.{List, ◌++◌, append-nil, append_assoc}
use native.Mathlib.Nat.{zero-mul, zero-add}
use native.Mathlib.Omega.{arith}
use lib.ListN.{length, take, drop, length-append, length-take}
use lib.Seq.{drop-append-add}
use Rattle.octets.proofs.Parts.{part_rest, part_home}
use Rattle.octets.specs.Strings.{xor_bytes}
use Rattle.modes.specs.Stream.{stream, masked}
use Rattle.octets.proofs.XorBytes.{xor_length, xor_nil, xor_twice, xor_++, xor_short, take_xor, drop_xor}

-- the counter block after k more
unfoldable pub after : (next : List ℕ → List ℕ) (k : ℕ) (c : List ℕ) → List ℕ
after next zero c = c
after next (suc k) c = after next k (next c)

module _ (next cipher : List ℕ → List ℕ) where
  pub after_suc : (k : ℕ) (c : List ℕ) → after next (suc k) c ≡ next (after next k c)
  unfolding after
  after_suc zero c = refl
  after_suc (suc k) c = after_suc k (next c)

  -- one block more at the end
  pub stream_suc : (n : ℕ) (c : List ℕ) → stream next cipher (suc n) c ≡ stream next cipher n c ++ cipher (after next n c)
  unfolding after stream
  stream_suc zero c = append-nil (cipher c)
  stream_suc (suc n) c =
      ap (λ (l : List ℕ). cipher c ++ l) (stream_suc n (next c)) ∙ sym (append_assoc (cipher c) (stream next cipher n (next c)) (cipher (after next n (next c))))

  -- a text keeps its length, and masking twice gives it back
  pub masked_length : (c text : List ℕ) → length (masked next cipher c text) ≡ length text
  unfolding masked
  masked_length c text = xor_length text (stream next cipher ((length text + 15) / 16) c)

  pub masked_twice : (c text : List ℕ) → masked next cipher c (masked next cipher c text) ≡ text
  unfolding masked
  masked_twice c text =
      ap (λ n. xor_bytes (masked next cipher c text) (stream next cipher ((n + 15) / 16) c)) (masked_length c text)
      ∙ xor_twice text (stream next cipher ((length text + 15) / 16) c)

  -- a loop over a text begins with no block of key stream
  pub mask_start : (c text : List ℕ) → text ≡ xor_bytes text (stream next cipher (0 / 16) c)
  unfolding stream
  mask_start c text = sym (xor_nil text)

  pub count_start : (c : List ℕ) → c ≡ after next (0 / 16) c
  unfolding after
  count_start c = refl

  -- and ends once it has passed the text
  pub mask_done : (c text out : List ℕ) (at : ℕ) → at % 16 ≡ 0 → length text ≤ at → at < length text + 16
      → out ≡ xor_bytes text (stream next cipher (at / 16) c) → out ≡ masked next cipher c text
  unfolding masked
  mask_done c text out at whole past near e =
      let n : at / 16 ≡ (length text + 15) / 16 = omega arith in
      e ∙ ap (λ k. xor_bytes text (stream next cipher k c)) n

  -- its counter
  pub count_turn : (c b r : List ℕ) (at : ℕ) → b ≡ after next (at / 16) c → r ≡ next b → r ≡ after next ((at + 16) / 16) c
  count_turn c b r at eb er =
      let n : (at + 16) / 16 ≡ suc (at / 16) = omega arith in
      er ∙ ap next eb ∙ sym (after_suc (at / 16) c) ∙ ap (λ k. after next k c) (sym n)

  module _ (sixteen : (b : List ℕ) → length (cipher b) ≡ 16) where
    pub stream_length : (n : ℕ) (c : List ℕ) → length (stream next cipher n c) ≡ n * 16
    unfolding stream
    stream_length zero c = sym (zero-mul 16)
    stream_length (suc n) c =
        length-append (cipher c) (stream next cipher n (next c)) ∙ ap₂ ◌+◌ (sixteen c) (stream_length n (next c)) ∙ omega arith

    -- the blocks from the k-th on
    pub stream_drop : (k m : ℕ) (c : List ℕ) → drop (k * 16) (stream next cipher (k + m) c) ≡ stream next cipher m (after next k c)
    unfolding after stream
    stream_drop zero m c = ap₂ drop (zero-mul 16) (ap (λ n. stream next cipher n c) (zero-add m))
    stream_drop (suc k) m c =
        let n : suc k + m ≡ suc (k + m) = omega arith in
        let d : suc k * 16 ≡ length (cipher c) + k * 16 = omega (arith, sixteen c) in
        ap₂ (λ x y. drop x (stream next cipher y c)) d n ∙ drop-append-add (cipher c) (stream next cipher (k + m) (next c)) (k * 16) ∙ stream_drop k m (next c)

    -- a turn of a loop that masks in place: the block at `at` is masked through the part that starts there
    pub mask_turn : (c b text out ys : List ℕ) (at : ℕ) → at % 16 ≡ 0 → b ≡ after next (at / 16) c → out ≡ xor_bytes text (stream next cipher (at / 16) c)
        → ys ≡ xor_bytes (take (length out - at) (drop at out)) (cipher b)
        → take at out ++ (ys ++ drop (length out - at) (drop at out)) ≡ xor_bytes text (stream next cipher ((at + 16) / 16) c)
    mask_turn c b text out ys at whole eb eo ey =
        let s : List ℕ = stream next cipher (at / 16) c in
        let l : length s ≡ at = stream_length (at / 16) c ∙ omega arith in
        let n : (at + 16) / 16 ≡ suc (at / 16) = omega arith in
        part_home at out ys ∙ ap (λ (z : List ℕ). take at out ++ z) (ey ∙ ap₂ (λ (x y : List ℕ). xor_bytes x (cipher y)) (part_rest at out) eb)
        ∙ ap₂ (λ (o : List ℕ) (k : ℕ). take k o ++ xor_bytes (drop k o) (cipher (after next (at / 16) c))) eo (sym l)
        ∙ sym (xor_++ text s (cipher (after next (at / 16) c)))
        ∙ ap (xor_bytes text) (sym (stream_suc (at / 16) c)) ∙ ap (λ k. xor_bytes text (stream next cipher k c)) (sym n)

    first_block : (t b : List ℕ) (m : ℕ) → length t ≤ 16 → xor_bytes t (stream next cipher (suc m) b) ≡ xor_bytes t (cipher b)
    unfolding stream
    first_block t b m h = xor_short t (cipher b) (stream next cipher m (next b)) (omega (arith, sixteen b))

    -- a block of a masked text, where it lies
    pub masked_block : (c text : List ℕ) (at : ℕ) → at % 16 ≡ 0 → at < length text
        → take 16 (drop at (masked next cipher c text)) ≡ xor_bytes (take 16 (drop at text)) (cipher (after next (at / 16) c))
    unfolding masked
    masked_block c text at whole inside =
        let n : ℕ = (length text + 15) / 16 in
        let k : ℕ = at / 16 in
        let m : n ≡ k + suc (n - k - 1) = omega arith in
        let d : at ≡ k * 16 = omega arith in
        ap (take 16) (drop_xor at text (stream next cipher n c)) ∙ take_xor 16 (drop at text) (drop at (stream next cipher n c))
        ∙ ap (xor_bytes (take 16 (drop at text))) (ap₂ (λ x y. drop x (stream next cipher y c)) d m ∙ stream_drop k (suc (n - k - 1)) c)
        ∙ first_block (take 16 (drop at text)) (after next k c) (n - k - 1) (omega (arith, length-take 16 (drop at text)))
