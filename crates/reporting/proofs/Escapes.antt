-- Escaped text: piece after piece. Assumes nothing.
use Prim.Native.Nat.{ℕ, ◌+◌, ◌<◌}
use mathlib.Core.Path.{◌≡◌, refl, sym, ap, ◌∙◌}
use mathlib.Core.List.{List, [], ◌∷◌, ◌++◌, append_assoc, append-nil}
use mathlib.Core.Bool.{true, false}
use lib.ListN.{length, get_or, take}
use Rattle.reporting.specs.Escapes.{plain, hex_escape, shown, escaped}
use Rattle.octets.proofs.Places.{take_more}

-- a byte, by the test of the code
pub shown_plain : (b : ℕ) → plain b ≡ true → b ∷ [] ≡ shown b
unfolding shown
shown_plain b e = rw e

pub shown_escaped : (b : ℕ) → plain b ≡ false → hex_escape b ≡ shown b
unfolding shown
shown_escaped b e = rw e

-- texts one behind the other
pub escaped_append : (s t : List ℕ) → escaped s ++ escaped t ≡ escaped (s ++ t)
unfolding escaped
escaped_append [] t = refl
escaped_append (b ∷ s) t = append_assoc (shown b) (escaped s) (escaped t) ∙ ap (λ (l : List ℕ). shown b ++ l) (escaped_append s t)

escaped_one : (b : ℕ) → shown b ≡ escaped (b ∷ [])
unfolding escaped
escaped_one b = sym (append-nil (shown b))

-- one byte more
pub escaped_more : (s : List ℕ) (i : ℕ) → i < length s → escaped (take i s) ++ shown (get_or s i 0) ≡ escaped (take (i + 1) s)
escaped_more s i h =
    ap (λ (l : List ℕ). escaped (take i s) ++ l) (escaped_one (get_or s i 0))
    ∙ escaped_append (take i s) (get_or s i 0 ∷ [])
    ∙ ap escaped (take_more s i h)
