-- What is written in hex reads back: the text of bytes is hex, and spells them. Assumes nothing.
use Prim.Native.Nat.{ℕ, ◌+◌, ◌*◌, ◌/◌, ◌%◌, ◌<◌}
use mathlib.Core.Path.{◌≡◌, refl, ap, ◌∙◌}
use mathlib.Core.Bool.{Bool, true, false, cond, ◌&&◌}
use mathlib.Core.List.{List, [], ◌∷◌}
use native.Mathlib.Nat.{mod-lt}
use native.Mathlib.Omega.{arith}
use borrow.Author.Tests.{lt-ltb, ltb-true, ltb-false, eq-eqb}
use lib.Dec.{ltb, lit<}
use lib.ListN.{length}
use Rattle.digits.specs.Text.{digit, letter, all_hex, is_hex, spelled, spelling}
use Rattle.digits.proofs.Laws.{within, above, length-spelling}

-- each is a byte
pub Bytes : List ℕ → Type 0
Bytes [] = Unit {0}
Bytes (b ∷ s) = (b < 256) × Bytes s

of_digit : (m : ℕ) (t : Bool) → ltb m 10 ≡ t → m < 16 → digit (cond t (48 + m) (87 + m)) ≡ m
of_digit m true e h =
    let p : m < 10 = ltb-true m 10 e in
    simp (within 48 58 (48 + m) (omega arith) (omega arith)) (omega arith)
of_digit m false e h =
    let p = ltb-false m 10 e in
    simp (above 48 58 (87 + m) (omega arith), within 97 103 (87 + m) (omega arith) (omega arith)) (omega arith)

pub digit_letter : (n : ℕ) → digit (letter n) ≡ n % 16
digit_letter n = of_digit (n % 16) (ltb (n % 16) 10) refl (mod-lt n (lit< tt))

pub spells_back : (s : List ℕ) → Bytes s → spelled (spelling s) ≡ s
unfolding spelled spelling Bytes
spells_back [] h = refl
spells_back (b ∷ s) (p, h) =
    let e : digit (letter (b / 16)) % 16 * 16 + digit (letter b) % 16 ≡ b = rw (digit_letter (b / 16), digit_letter b) (omega arith) in
    (λ i. e i ∷ spells_back s h i)

letters_are_hex : (s : List ℕ) → all_hex (spelling s) ≡ true
unfolding all_hex spelling
letters_are_hex [] = refl
letters_are_hex (b ∷ s) =
    ap (λ d. ltb d 16 && (ltb (digit (letter b)) 16 && all_hex (spelling s))) (digit_letter (b / 16))
    ∙ ap (λ t. t && (ltb (digit (letter b)) 16 && all_hex (spelling s))) (lt-ltb (b / 16 % 16) 16 (mod-lt (b / 16) (lit< tt)))
    ∙ ap (λ d. ltb d 16 && all_hex (spelling s)) (digit_letter b)
    ∙ ap (λ t. t && all_hex (spelling s)) (lt-ltb (b % 16) 16 (mod-lt b (lit< tt)))
    ∙ letters_are_hex s

pub spelling_is_hex : (s : List ℕ) → is_hex (spelling s) ≡ true
spelling_is_hex s =
    let e = length-spelling s in
    ap (λ t. t && all_hex (spelling s)) (eq-eqb (length (spelling s) % 2) 0 (omega arith)) ∙ letters_are_hex s
