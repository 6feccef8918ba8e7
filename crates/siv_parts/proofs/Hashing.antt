-- The hash of a message, part after part and block after block, as code takes it. Assumes nothing.
use Rattle.std.proofs.lemmas.Bool.{cases_lt}
use Rattle.std.proofs.lemmas.List.{nil_from_length}
use Rattle.std.proofs.Common.{◌≡◌, ◌⊎◌, inl, inr, [], suc, drop_at, drop_of_length-le, length-append, ℕ, ◌+◌, ◌*◌, ◌/◌, ◌%◌, ◌^◌, ◌<◌, min, List, ◌++◌, length, take, drop, replicate, sym, ap, ◌∙◌, ap₂, append-nil, mod-lt, arith, lit<, length-take, take_all, take_at}
use lib.Pow.{split}
use Rattle.octets.specs.Numbers.{bytes_of}
use Rattle.octets.proofs.Numbers.{bytes_of_++}
use Rattle.field.specs.declared.field_element.FieldElement.{FieldElement}
use Rattle.field.specs.Element.{value, element}
use Rattle.field.proofs.Element.{value_of}
use Rattle.rfc8452.specs.Machine.{run}
use Rattle.rfc8452.specs.Blocks.{blocks}
use Rattle.rfc8452.proofs.Run.{run_lt, run_++}
use Rattle.rfc8452.proofs.Cut.{blocks_++, blocks-none}
use Rattle.octets.specs.Strings.{xor_bytes, copied}
use Rattle.modes.specs.Stream.{stream, masked}
use Rattle.octets.proofs.XorBytes.{xor_length, xor_nil, take_xor, drop_xor, xor_++}
use Rattle.modes.proofs.Stream.{masked_length}

-- eight bytes hold a number modulo 2^64
eight_bytes : (n : ℕ) → bytes_of 8 (n % 2 ^ 64) ≡ bytes_of 8 n
unfolding bytes_of
eight_bytes n =
    sym (ap (bytes_of 8) (sym (split n 64)) ∙ bytes_of_++ 8 0 (n % 2 ^ 64) (n / 2 ^ 64) (mod-lt n (lit< tt)) ∙ append-nil (bytes_of 8 (n % 2 ^ 64)))

-- two words are two parts of eight bytes
pub two_words : (m n a b : ℕ) → a ≡ m % 2 ^ 64 → b ≡ n % 2 ^ 64 → bytes_of 16 (b * 2 ^ 64 + a) ≡ bytes_of 8 m ++ bytes_of 8 n
two_words m n a b ea eb =
    ap₂ (λ x y. bytes_of 16 (y * 2 ^ 64 + x)) ea eb ∙ bytes_of_++ 8 8 (m % 2 ^ 64) (n % 2 ^ 64) (mod-lt m (lit< tt))
    ∙ ap₂ (λ (x y : List ℕ). x ++ y) (eight_bytes m) (eight_bytes n)

-- a run in three parts, with an element held after each of the first two
pub three_parts : (h : ℕ) (xs ys zs : List ℕ) (a b : FieldElement) → a ≡ element (run h 0 xs) → b ≡ element (run h (value a) ys)
    → run h (value b) zs ≡ run h 0 (xs ++ (ys ++ zs))
three_parts h xs ys zs a b ea eb =
    let one : value a ≡ run h 0 xs = value_of (run h 0 xs) (run_lt h 0 xs (lit< tt)) ea in
    let two : value b ≡ run h (run h 0 xs) ys =
    value_of (run h (run h 0 xs) ys) (run_lt h (run h 0 xs) ys (run_lt h 0 xs (lit< tt))) (eb ∙ ap (λ v. element (run h v ys)) one) in
    ap (λ v. run h v zs) two ∙ sym (run_++ h 0 xs (ys ++ zs) ∙ run_++ h (run h 0 xs) ys zs)

-- a text over a block of zeros, masked, and cut to the text again
pub front_masked : (text pad b c : List ℕ) (n : ℕ) → n ≡ min 16 (length text) → b ≡ copied text (replicate 16 0) → c ≡ xor_bytes b pad
    → take n c ≡ xor_bytes (take 16 text) pad
unfolding copied
front_masked text pad b c n en eb ec =
    ap (take n) ec ∙ take_xor n b pad
    ∙ ap (λ (x : List ℕ). xor_bytes x pad) (ap (take n) eb ∙ take_at (take 16 text) (drop (length (take 16 text)) (replicate 16 0)) n (length-take 16 text ∙ sym en))

-- a text cut behind its first block, which is whole or all of it
module _ (all block rest : List ℕ) (parts : all ≡ block ++ rest) (size : length block ≡ min 16 (length all)) where
  lengths : length all ≡ length block + length rest
  lengths = ap length parts ∙ length-append block rest

  whole_or_all : (length block ≡ 16) ⊎ (rest ≡ [])
  whole_or_all =
      elim (cases_lt (length all) 16) [
        | inl short ↦ inr (nil_from_length rest (omega (arith, lengths)))
        | inr long ↦ inl (omega arith)
      ]

  front_block : take 16 all ≡ block
  front_block =
      elim whole_or_all [
        | inl whole ↦ ap (take 16) parts ∙ take_at block rest 16 whole
        | inr none ↦ let same : all ≡ block = parts ∙ ap (λ (r : List ℕ). block ++ r) none ∙ append-nil block in take_all 16 all (omega (arith, ap length same)) ∙ same
      ]

  back_rest : drop 16 all ≡ rest
  back_rest =
      elim whole_or_all [
        | inl whole ↦ ap (drop 16) parts ∙ drop_at block rest 16 whole
        | inr none ↦ drop_of_length-le all {i = 16} (omega (arith, lengths, ap length none)) ∙ sym none
      ]

-- a masked text from its first block on: that block masked, and the rest masked from the next counter block on
module _ (next cipher : List ℕ → List ℕ) (sixteen : (b : List ℕ) → length (cipher b) ≡ 16) where
  first_masked : (b all block rest : List ℕ) → all ≡ block ++ rest → length block ≡ min 16 (length all) → 0 < length all
      → masked next cipher b all ≡ xor_bytes block (cipher b) ++ masked next cipher (next b) rest
  unfolding masked stream
  first_masked b all block rest parts size some =
      let c : List ℕ = cipher b in
      let m : ℕ = (length rest + 15) / 16 in
      let more : List ℕ = stream next cipher m (next b) in
      let n : (length all + 15) / 16 ≡ suc m = omega (arith, lengths all block rest parts size) in
      let front : take 16 (xor_bytes all c) ≡ xor_bytes block c = take_xor 16 all c ∙ ap (λ (x : List ℕ). xor_bytes x c) (front_block all block rest parts size) in
      let back : drop 16 (xor_bytes all c) ≡ rest =
      drop_xor 16 all c ∙ ap₂ xor_bytes (back_rest all block rest parts size) (drop_of_length-le c {i = 16} (omega (arith, sixteen b))) ∙ xor_nil rest in
      ap (λ k. xor_bytes all (stream next cipher k b)) n ∙ xor_++ all c more
      ∙ ap (λ k. take k (xor_bytes all c) ++ xor_bytes (drop k (xor_bytes all c)) more) (sixteen b)
      ∙ ap₂ (λ (x y : List ℕ). x ++ xor_bytes y more) front back

  -- and what hashing the two comes to
  pub masked_turn : (h : ℕ) (b all block rest pad : List ℕ) (a r : FieldElement) → value a < 2 ^ 128 → all ≡ block ++ rest → length block ≡ min 16 (length all)
      → 0 < length all → pad ≡ cipher b → r ≡ element (run h (value a) (blocks (xor_bytes (take 16 block) pad)))
      → run h (value r) (blocks (masked next cipher (next b) rest)) ≡ run h (value a) (blocks (masked next cipher b all))
  masked_turn h b all block rest pad a r small parts size some ep er =
      let x : List ℕ = xor_bytes block (cipher b) in
      let y : List ℕ = masked next cipher (next b) rest in
      let s : ℕ = run h (value a) (blocks x) in
      let long : length x ≡ length block = xor_length block (cipher b) in
      let two : blocks (x ++ y) ≡ blocks x ++ blocks y =
      elim (whole_or_all all block rest parts size) [
        | inl whole ↦ blocks_++ x y (omega (arith, long))
        | inr none ↦
            let empty : y ≡ [] = nil_from_length y (masked_length next cipher (next b) rest ∙ ap length none) in
            ap (λ (l : List ℕ). blocks (x ++ l)) empty ∙ ap blocks (append-nil x) ∙ sym (ap (λ (l : List ℕ). blocks x ++ blocks l) empty ∙ ap (λ (l : List ℕ). blocks x ++ l) blocks-none ∙ append-nil (blocks x))
      ] in
      let hashed : value r ≡ s =
      value_of s (run_lt h (value a) (blocks x) small)
      (er ∙ ap₂ (λ (l p : List ℕ). element (run h (value a) (blocks (xor_bytes l p)))) (take_all 16 block (omega arith)) ep) in
      ap (λ v. run h v (blocks y)) hashed ∙ sym (run_++ h (value a) (blocks x) (blocks y)) ∙ ap (run h (value a)) (sym (ap blocks (first_masked b all block rest parts size some) ∙ two))

-- nothing is left to mask
pub masked_none : (next cipher : List ℕ → List ℕ) (h v : ℕ) (b rest : List ℕ) → length rest ≡ 0 → run h v (blocks (masked next cipher b rest)) ≡ v
unfolding run
masked_none next cipher h v b rest e = ap (λ (l : List ℕ). run h v (blocks l)) (nil_from_length _ (masked_length next cipher b rest ∙ e)) ∙ ap (run h v) blocks-none
