-- `frame::position::from_bytes` meets its contract. Assumes nothing.
use mir.Syntax.{w32}
use mathlib.Core.Path.{◌≡◌, ap, ◌∙◌}
use mathlib.Core.List.{List, [], ◌∷◌}
use Prim.Native.Nat.{ℕ, ◌+◌, ◌/◌, ◌≤◌}
use native.Mathlib.Omega.{arith}
use borrow.Author.Rules.{rules}
use lib.ListN.{length, get_or, take, drop, length-drop}
use lib.Seq.{length-take-le, drop-drop}
use Rattle.std.specs.Int.{from_le_bytes}
use Rattle.std.specs.Simd.{first_chunks}
use Rattle.octets.specs.Numbers.{number}
use Rattle.octets.proofs.Endian.{from_le}
use Rattle.framing.specs.Position.{position_of, field_at}
use Rattle.frame.proofs.Signs.{signed_read}
use Rattle.frame.proofs.position.from_bytes.Goals as goal

-- sixteen bytes in words, each by the place where it lies
in_words : (b : List ℕ) {ws : List (List ℕ)} → length b ≡ 16 → ws ≡ first_chunks 4 (length b / 4) b
    → ws ≡ take 4 (drop 0 b) ∷ take 4 (drop 4 b) ∷ take 4 (drop 8 b) ∷ take 4 (drop 12 b) ∷ []
in_words b l e =
    e ∙ ap (λ n. first_chunks 4 (n / 4) b) l
    ∙ (λ i. take 4 b ∷ take 4 (drop 4 b) ∷ take 4 (drop-drop 4 4 b i) ∷ (ap (λ (x : List ℕ). take 4 (drop 4 x)) (drop-drop 4 4 b) ∙ ap (take 4) (drop-drop 4 8 b)) i ∷ [])

-- the word at a place is the field there
word : (b : List ℕ) (i : ℕ) → i + 4 ≤ length b → {bs : List ℕ} → bs ≡ take 4 (drop i b) → from_le_bytes w32 bs ≡ field_at i b
word b i h {bs} e = from_le w32 bs (ap length e ∙ length-take-le 4 (drop i b) (rw length-drop (omega arith))) ∙ ap number e

pub returns : goal.returns
unfolding position_of
returns c =
    let b = c.args.b in
    let long : length b ≡ 16 = search rules in
    let words = in_words b long c.as_chunks.ensures.front in
    (λ i. record {
      lat = signed_read (search rules) c.from_le_bytes.ensures (word b 0 (omega (arith, long)) (ap (λ (ws : List (List ℕ)). get_or ws 0 []) words)) i;
      lon = signed_read (search rules) c.from_le_bytes-2.ensures (word b 4 (omega (arith, long)) (ap (λ (ws : List (List ℕ)). get_or ws 1 []) words)) i;
      alt = signed_read (search rules) c.from_le_bytes-3.ensures (word b 8 (omega (arith, long)) (ap (λ (ws : List (List ℕ)). get_or ws 2 []) words)) i;
      time = (c.from_le_bytes-4.ensures ∙ word b 12 (omega (arith, long)) (ap (λ (ws : List (List ℕ)). get_or ws 3 []) words)) i;
    })
