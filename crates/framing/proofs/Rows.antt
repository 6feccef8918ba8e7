-- The laws of the table of kinds. They hold of any rows; the facts of the table itself are computed, here and nowhere
-- else. Assumes nothing.
use Prim.Native.Nat.{ℕ, ◌+◌, ◌-◌, ◌≤◌, ◌<◌, ◌%◌, max}
use mathlib.Core.Path.{◌≡◌, refl, sym, ap, ◌∙◌, subst}
use mathlib.Core.Bool.{Bool, true, false, cond, ◌&&◌}
use mathlib.Core.List.{List, [], ◌∷◌}
use native.Mathlib.Omega.{arith}
use native.Mathlib.Nat.{le-max_left, le-max_right}
use borrow.Author.Tests.{eqb-true, leb-true, le-leb, lt-leb}
use lib.Dec.{eqb, leb, ltb→lt}
use Rattle.std.specs.Prelude.{Option, Some, None}
use Rattle.framing.specs.Kinds.{TableRow, position, table, find_in, row_of, holds, known, allows, is_known, is_allowed, greatest, max_frame_plaintext}

both : (a b : Bool) → (a && b) ≡ true → (a ≡ true) × (b ≡ true)
both true b e = (refl, e)
both false b e = absurd (let z : ◌≡◌ {A = ℕ} 0 1 = cc in omega arith)

-- a sealed part holds a tag, and a plaintext from the row's least to its greatest
held_bounds : (r : TableRow) (n : ℕ) → allows (Some r) n ≡ true → (16 + r.least ≤ n) × (n ≤ 16 + r.most)
held_bounds r n e =
    let tagged = both (leb 16 n) (holds r (n - 16)) e in
    let upper = both (leb r.least (n - 16)) (leb (n - 16) r.most && eqb ((n - 16 - r.least) % r.step) 0) tagged.1 in
    let least = leb-true r.least (n - 16) upper.0 in
    let most = leb-true (n - 16) r.most (both (leb (n - 16) r.most) (eqb ((n - 16 - r.least) % r.step) 0) upper.1).0 in
    let tag = leb-true 16 n tagged.0 in
    (omega arith, omega arith)

found_bound : (x : TableRow) (rest : Option TableRow) (n most : ℕ) (b : Bool) → (allows rest n ≡ true → (16 ≤ n) × (n ≤ 16 + most)) → allows (cond b (Some x) rest) n ≡ true
    → (16 ≤ n) × (n ≤ 16 + max x.most most)
found_bound x rest n most true later e = let h = held_bounds x n e in (omega arith, omega (arith, le-max_left x.most most))
found_bound x rest n most false later e = let h = later e in (h.0, omega (arith, le-max_right x.most most))

-- and none is longer than the longest plaintext of all rows
found_bounds : (rows : List TableRow) (kind n : ℕ) → allows (find_in rows kind) n ≡ true → (16 ≤ n) × (n ≤ 16 + greatest rows)
found_bounds [] kind n e = absurd (let z : ◌≡◌ {A = ℕ} 0 1 = cc in omega arith)
found_bounds (x ∷ rows) kind n e = found_bound x (find_in rows kind) n (greatest rows) (eqb x.number kind) (found_bounds rows kind n) e

-- what holds of the number of each row holds of every known kind
abbrev pub Each : (ℕ → Type 0) → List TableRow → Type 0
Each P [] = Unit {0}
Each P (r ∷ rs) = P r.number × Each P rs

one_of : (P : ℕ → Type 0) (x : TableRow) (rest : Option TableRow) (kind : ℕ) (b : Bool) → eqb x.number kind ≡ b → P x.number → (known rest ≡ true → P kind)
    → known (cond b (Some x) rest) ≡ true → P kind
one_of P x rest kind true q h later e = subst P (eqb-true x.number kind q) h
one_of P x rest kind false q h later e = later e

each_found : (P : ℕ → Type 0) (rows : List TableRow) → Each P rows → (kind : ℕ) → known (find_in rows kind) ≡ true → P kind
each_found P [] h kind e = absurd (let z : ◌≡◌ {A = ℕ} 0 1 = cc in omega arith)
each_found P (x ∷ rows) (h, hs) kind e = one_of P x (find_in rows kind) kind (eqb x.number kind) refl h (each_found P rows hs kind) e

pub each_known : (P : ℕ → Type 0) → Each P table → (kind : ℕ) → is_known kind ≡ true → P kind
unfolding is_known row_of
each_known P h kind e = each_found P table h kind e

-- what a row says of a kind
module _ (kind : ℕ) where
  pub row_known : (r : TableRow) → row_of kind ≡ Some r → is_known kind ≡ true
  unfolding is_known
  row_known r e = ap known e

  pub row_unknown : row_of kind ≡ None → is_known kind ≡ false
  unfolding is_known
  row_unknown e = ap known e

  module _ (n : ℕ) where
    untagged : (f : Option TableRow) → n < 16 → allows f n ≡ false
    untagged (Some r) h = simp (lt-leb _ _ h)
    untagged None h = refl

    pub too_short : n < 16 → is_allowed kind n ≡ false
    unfolding is_allowed
    too_short h = untagged (row_of kind) h

    pub row_allows : (r : TableRow) → row_of kind ≡ Some r → 16 ≤ n → is_allowed kind n ≡ holds r (n - 16)
    unfolding is_allowed
    row_allows r e h = ap (λ (f : Option TableRow). allows f n) e ∙ simp (le-leb _ _ h)

    pub row_bounds : (r : TableRow) → row_of kind ≡ Some r → is_allowed kind n ≡ true → (16 + r.least ≤ n) × (n ≤ 16 + r.most)
    unfolding is_allowed
    row_bounds r e h = held_bounds r n (sym (ap (λ (f : Option TableRow). allows f n) e) ∙ h)

    pub none_allows : row_of kind ≡ None → is_allowed kind n ≡ false
    unfolding is_allowed
    none_allows e = ap (λ (f : Option TableRow). allows f n) e

    pub allowed_bounds : is_allowed kind n ≡ true → (16 ≤ n) × (n ≤ 16 + max_frame_plaintext)
    unfolding is_allowed row_of max_frame_plaintext
    allowed_bounds = found_bounds table kind n

-- a position's plaintext has 16 bytes
pub sixteen_bytes : (kind n : ℕ) → kind ≡ position → is_allowed kind (n + 16) ≡ true → n ≡ 16
unfolding row_of table
sixteen_bytes kind n k e = let b = row_bounds position (n + 16) _ refl (rw k at e) in omega arith

-- the length field of two bytes has room for every sealed part
pub longest_fits : 16 + max_frame_plaintext < 65536
unfolding max_frame_plaintext table
longest_fits = ltb→lt (16 + max_frame_plaintext) 65536 tt
