-- What a buffer holds after a text is copied to its front and masked there, and after a tag is put behind it. Assumes nothing.
use Prim.Native.Nat.{ℕ, ◌+◌, ◌-◌, ◌≤◌}
use mathlib.Core.Path.{◌≡◌, refl, sym, ap, ap₂, ◌∙◌}
use mathlib.Core.List.{List, ◌++◌, append_assoc}
use native.Mathlib.Omega.{arith}
use lib.ListN.{length, take, drop, length-drop}
use lib.Seq.{take_at, drop_at, drop-drop}
use Rattle.octets.proofs.Parts.{part_rest, part_home}
use Rattle.octets.specs.Strings.{copied}
use Rattle.octets.proofs.Copies.{copied_fits}

-- x has the text in front; its first bytes are changed through a part
pub changed_front : (f : List ℕ → List ℕ) (text d x y : List ℕ) → length text ≤ length d → x ≡ copied text d → y ≡ f (take (length text) x)
    → y ++ drop (length text) x ≡ f text ++ drop (length text) d
changed_front f text d x y fits ex ey =
    let n : ℕ = length text in
    let whole : x ≡ text ++ drop n d = ex ∙ copied_fits text d fits in
    let front : take n x ≡ text = ap (take n) whole ∙ take_at text (drop n d) n refl in
    let back : drop n x ≡ drop n d = ap (drop n) whole ∙ drop_at text (drop n d) n refl in
    ap₂ (λ (a b : List ℕ). a ++ b) (ey ∙ ap f front) back

-- x has m in front; t is copied behind it through the part that starts there
pub put_behind : (m t d x y : List ℕ) (n : ℕ) → length m ≡ n → n + length t ≤ length d → x ≡ m ++ drop n d → y ≡ copied t (take (length x - n) (drop n x))
    → take n x ++ (y ++ drop (length x - n) (drop n x)) ≡ (m ++ t) ++ drop (n + length t) d
put_behind m t d x y n lm fits ex ey =
    let front : take n x ≡ m = ap (take n) ex ∙ take_at m (drop n d) n lm in
    let back : drop n x ≡ drop n d = ap (drop n) ex ∙ drop_at m (drop n d) n lm in
    let room : length t ≤ length (drop n d) = omega (arith, length-drop n d) in
    let put : y ≡ t ++ drop (n + length t) d =
    ey ∙ ap (copied t) (part_rest n x ∙ back) ∙ copied_fits t (drop n d) room ∙ ap (λ (l : List ℕ). t ++ l) (drop-drop (length t) n d) in
    part_home n x y ∙ ap₂ (λ (a b : List ℕ). a ++ b) front put ∙ sym (append_assoc m t (drop (n + length t) d))
