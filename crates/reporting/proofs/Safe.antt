-- Whatever a frame holds, a line holds nothing but bytes from 0x20 to 0x7E, and a newline at its end alone: nothing can act on
-- a terminal, and no line can be forged. Assumes nothing.
use Prim.Native.Nat.{ℕ, zero, suc, ◌+◌, ◌/◌, ◌%◌, ◌^◌, ◌≤◌, ◌<◌}
use mathlib.Core.Path.{◌≡◌, refl}
use mathlib.Core.List.{List, [], ◌∷◌}
use mathlib.Core.Bool.{Bool, true, false, cond}
use native.Mathlib.Omega.{arith}
use borrow.Author.Tests.{ltb-true, leb-true}
use lib.Dec.{ltb, leb, eqb}
use lib.IntN.{ℤ, pos, negsuc, nat_abs}
use Rattle.octets.proofs.Numbers.{Bytes}
use Rattle.reporting.specs.Ascii.{ascii}
use Rattle.reporting.specs.Numbers.{last_digit, digits, digit_count, decimal, sign, in_places, fixed}
use Rattle.reporting.specs.Escapes.{plain, hex_digit, hex_escape, shown, escaped}
use Rattle.reporting.specs.Printable.{Printable, OneLine}
use Rattle.logic.proofs.Tests.{no}
use Rattle.reporting.proofs.Printable.{none, one, joined, printable, word, after, ending, newline}
use Rattle.reporting.specs.Lines.{head_of, line_of, angles_of, height_of, position_line_of, stop_of, stop_line_of}

digit : (n : ℕ) → Printable (last_digit n ∷ [])
digit n = one (last_digit n) (omega arith) (omega arith)

pub safe_digits : (k n : ℕ) → Printable (digits k n)
unfolding digits
safe_digits zero n = none
safe_digits (suc k) n = joined (digits k (n / 10)) (last_digit n ∷ []) (safe_digits k (n / 10)) (digit n)

pub safe_decimal : (n : ℕ) → Printable (decimal n)
unfolding decimal
safe_decimal n = safe_digits (digit_count n) n

safe_sign : (z : ℤ) → Printable (sign z)
safe_sign (pos n) = none
safe_sign (negsuc n) = one 45 (omega arith) (omega arith)

pub safe_fixed : (k : ℕ) (z : ℤ) → Printable (fixed k z)
unfolding fixed in_places
safe_fixed k z =
    joined (sign z) _ (safe_sign z)
    (joined (decimal (nat_abs z / 10 ^ k)) _ (safe_decimal (nat_abs z / 10 ^ k)) (joined (ascii ".") _ (one 46 (omega arith) (omega arith)) (safe_digits k (nat_abs z))))

-- a byte's escape, and a byte that is shown as itself
safe_hex : (d : ℕ) → d < 16 → (0x20 ≤ hex_digit d) × (hex_digit d ≤ 0x7E)
safe_hex d h = by_test (ltb d 10) refl
  where
    by_test : (b : Bool) → ltb d 10 ≡ b → (0x20 ≤ cond b (48 + d) (87 + d)) × (cond b (48 + d) (87 + d) ≤ 0x7E)
    by_test true e = let l = ltb-true d 10 e in (omega arith, omega arith)
    by_test false e = (omega arith, omega arith)

plain_bounds : (b : ℕ) → plain b ≡ true → (0x20 ≤ b) × (b ≤ 0x7E)
plain_bounds b = by_tests (eqb b 0x5C) (leb 0x20 b) refl
  where
    by_tests : (s l : Bool) → leb 0x20 b ≡ l → cond s false (cond l (leb b 0x7E) false) ≡ true → (0x20 ≤ b) × (b ≤ 0x7E)
    by_tests true l e h = no h
    by_tests false true e h = (leb-true 0x20 b e, leb-true b 0x7E h)
    by_tests false false e h = no h

safe_shown : (b : ℕ) → b < 256 → Printable (shown b)
unfolding shown
safe_shown b h = by_test (plain b) refl
  where
    by_test : (t : Bool) → plain b ≡ t → Printable (cond t (b ∷ []) (hex_escape b))
    by_test true e = one b (plain_bounds b e).0 (plain_bounds b e).1
    by_test false e =
        let hi = safe_hex (b / 16) (omega arith) in
        let lo = safe_hex (b % 16) (omega arith) in
        joined (92 ∷ []) _ (one 92 (omega arith) (omega arith))
        (joined (120 ∷ []) _ (one 120 (omega arith) (omega arith)) (joined (hex_digit (b / 16) ∷ []) _ (one _ hi.0 hi.1) (one _ lo.0 lo.1)))

pub safe_escaped : (s : List ℕ) → Bytes s → Printable (escaped s)
unfolding escaped
safe_escaped [] h = none
safe_escaped (b ∷ s) (h, hs) = joined (shown b) (escaped s) (safe_shown b h) (safe_escaped s hs)

safe_head : (offset kind answer : ℕ) → Printable (head_of offset kind answer)
unfolding head_of printable
safe_head offset kind answer =
    joined (decimal offset) _ (safe_decimal offset)
    (after (ascii " ") _ refl (joined (decimal kind) _ (safe_decimal kind) (after (ascii " ") _ refl (safe_decimal answer))))

safe_angles : (lat lon : ℤ) → Printable (angles_of lat lon)
unfolding angles_of printable
safe_angles lat lon =
    after (ascii "lat ") _ refl
    (joined (fixed 7 lat) _ (safe_fixed 7 lat) (after (ascii " deg, lon ") _ refl (joined (fixed 7 lon) _ (safe_fixed 7 lon) (word (ascii " deg") refl))))

safe_height : (alt : ℤ) (time : ℕ) → Printable (height_of alt time)
unfolding height_of printable
safe_height alt time =
    after (ascii ", alt ") _ refl
    (joined (fixed 2 alt) _ (safe_fixed 2 alt) (after (ascii " m, time ") _ refl (joined (decimal time) _ (safe_decimal time) (word (ascii " s") refl))))

safe_stop : (reason offset frames : ℕ) → Printable (stop_of reason offset frames)
unfolding stop_of printable
safe_stop reason offset frames =
    after (ascii "stop ") _ refl
    (joined (decimal reason) _ (safe_decimal reason)
    (after (ascii " at ") _ refl
    (joined (decimal offset) _ (safe_decimal offset) (after (ascii ", frames ") _ refl (joined (decimal frames) _ (safe_decimal frames) (word (ascii ": ") refl))))))

-- every line of a report
pub safe_line : (offset kind answer : ℕ) (label s : List ℕ) → Bytes label → Bytes s → OneLine (line_of offset kind answer label s)
unfolding line_of printable
safe_line offset kind answer label s hl hs =
    ending (head_of offset kind answer) _ (safe_head offset kind answer)
    (ending (ascii " ") _ (word (ascii " ") refl) (ending (escaped label) _ (safe_escaped label hl) (ending (escaped s) _ (safe_escaped s hs) newline)))

pub safe_position_line : (offset kind : ℕ) (lat lon alt : ℤ) (time : ℕ) → OneLine (position_line_of offset kind lat lon alt time)
unfolding position_line_of printable
safe_position_line offset kind lat lon alt time =
    ending (head_of offset kind 0) _ (safe_head offset kind 0)
    (ending (ascii " position: ") _ (word (ascii " position: ") refl) (ending (angles_of lat lon) _ (safe_angles lat lon) (ending (height_of alt time) _ (safe_height alt time) newline)))

pub safe_stop_line : (reason offset frames : ℕ) (note : List ℕ) → Bytes note → OneLine (stop_line_of reason offset frames note)
unfolding stop_line_of
safe_stop_line reason offset frames note h = ending (stop_of reason offset frames) _ (safe_stop reason offset frames) (ending (escaped note) _ (safe_escaped note h) newline)
