-- What code has of kinds, rows and fronts, as the definitions tell it: what they say fixes it, and the code's table is theirs. Assumes nothing.
use Prim.Native.Nat.{ℕ}
use mathlib.Core.Path.{◌≡◌, refl, sym, ap, ◌∙◌}
use mathlib.Core.Bool.{Bool, true, false, cond}
use mathlib.Core.List.{List, [], ◌∷◌, map}
use native.Mathlib.Omega.{arith}
use borrow.Author.Tests.{eqb-true}
use lib.Dec.{eqb}
use Rattle.std.specs.Prelude.{Option, Some, None, option_map}
use Rattle.std.specs.Option.{is_some, ok_or}
use Rattle.std.specs.List.{find}
use Rattle.framing.specs.declared.kind.Kind.{Kind}
use Rattle.framing.specs.declared.kind.Kind.TheVariants.{Position, Text, CheckIn}
use Rattle.framing.specs.declared.kind.Row.{Row}
use Rattle.framing.specs.Kinds.{TableRow, kind_number, KindFor, row_told, table, find_in, row_of, known, allows, is_known, is_allowed}
use Rattle.std.specs.Prelude.{Result, Ok, Err}
use Rattle.answer.specs.declared.Reason.{Reason}
use Rattle.answer.specs.declared.Reason.TheVariants.{NotAFrame, CutShort}
use Rattle.answer.proofs.Reasons.{one_reason}
use Rattle.framing.specs.declared.Extent.{Extent}
use Rattle.framing.specs.Front.{Whole, Stop, front_told}
use Rattle.framing.proofs.Rows.{row_known, row_unknown, none_allows}

-- by literal: each kind's number, a row, fronts
pub told_kinds : (kind_number Position ≡ 1) × (kind_number Text ≡ 2) × (kind_number CheckIn ≡ 3)
told_kinds = (refl, refl, refl)

pub told_rows : row_told (record { kind = Text; least = 5; most = 9; step = 2 }) ≡ record { number = 2; least = 5; most = 9; step = 2 }
told_rows = refl

pub told_fronts : (front_told (Ok (record { kind = Text; taken = 33 })) ≡ Whole 2 33) × (front_told (Err NotAFrame) ≡ Stop 9) × (front_told (Err CutShort) ≡ Stop 12)
told_fronts = (refl, refl, refl)

-- where a search that found nothing is an error, and where it is none
pub found_none : {T E : Type 0} (found : Option T) (e f : E) → ok_or found e ≡ Err f → (found ≡ None) × (f ≡ e)
found_none (Some x) e f p = cc
found_none None e f p = (refl, cc)

pub found_some : {T E : Type 0} (found : Option T) (e : E) (x : T) → ok_or found e ≡ Ok x → found ≡ Some x
found_some (Some y) e x p = cc
found_some None e x p = cc

-- no two kinds have one number
pub one_kind : (a b : Kind) → kind_number a ≡ kind_number b → a ≡ b
one_kind a b e = grind arith

-- no two rows are told alike
pub one_row : (a b : Row) → row_told a ≡ row_told b → a ≡ b
one_row a b e =
    let k : a.kind ≡ b.kind = one_kind a.kind b.kind (ap (λ r. r.number) e) in
    (λ i. record { kind = k i; least = (ap (λ (r : TableRow). r.least) e) i; most = (ap (λ (r : TableRow). r.most) e) i; step = (ap (λ (r : TableRow). r.step) e) i })

pub one_found : (a b : Option Row) → option_map row_told a ≡ option_map row_told b → a ≡ b
one_found (Some a) (Some b) e = ap Some (one_row a b cc)
one_found (Some a) None e = cc
one_found None (Some b) e = cc
one_found None None e = refl

-- a search of rows by their numbers is a search of what they are told as
told_first : (r : Row) (rest : Option Row) (left : Option TableRow) (b : Bool) → option_map row_told rest ≡ left
    → option_map row_told (cond b (Some r) rest) ≡ cond b (Some (row_told r)) left
told_first r rest left true e = refl
told_first r rest left false e = e

pub told_search : (number : ℕ) (rows : List Row) → option_map row_told (find (λ r. eqb (kind_number r.kind) number) rows) ≡ find_in (map row_told rows) number
told_search number [] = refl
told_search number (r ∷ rows) = told_first r _ _ (eqb (kind_number r.kind) number) (told_search number rows)

-- the row that a search finds has the number that it was asked for
found_first : (x r : TableRow) (rest : Option TableRow) (kind : ℕ) (b : Bool) → eqb x.number kind ≡ b → (rest ≡ Some r → r.number ≡ kind) → cond b (Some x) rest ≡ Some r → r.number ≡ kind
found_first x r rest kind true q later e = let s : x ≡ r = cc in sym (ap (λ (t : TableRow). t.number) s) ∙ eqb-true x.number kind q
found_first x r rest kind false q later e = later e

found_number : (rows : List TableRow) (kind : ℕ) (r : TableRow) → find_in rows kind ≡ Some r → r.number ≡ kind
found_number [] kind r e = absurd (let z : ◌≡◌ {A = ℕ} 0 1 = cc in omega arith)
found_number (x ∷ rows) kind r e = found_first x r (find_in rows kind) kind (eqb x.number kind) refl (found_number rows kind r) e

told_some : (found : Option Row) → is_some found ≡ known (option_map row_told found)
told_some (Some r) = refl
told_some None = refl

-- the kind that a row has is the one for the number that it was found by, and where no row is found there is none
module _ (number : ℕ) (found : Option Row) (e : option_map row_told found ≡ row_of number) where
  pub kind_found : (r : Row) → found ≡ Some r → (kind_number r.kind ≡ number) × (is_known number ≡ true)
  unfolding row_of
  kind_found r f = let s = sym e ∙ ap (option_map row_told) f in (found_number table number (row_told r) s, row_known number (row_told r) s)

  pub none_found : found ≡ None → is_known number ≡ false
  none_found f = row_unknown number (sym e ∙ ap (option_map row_told) f)

  pub told_none : found ≡ None → (n : ℕ) → is_allowed number n ≡ false
  told_none f n = none_allows number n (sym e ∙ ap (option_map row_told) f)

  pub told_known : is_some found ≡ is_known number
  unfolding is_known
  told_known = told_some found ∙ ap known e

  -- and what it allows
  module _ (r : Row) (f : found ≡ Some r) where
    told_row : row_of number ≡ Some (row_told r)
    told_row = sym e ∙ ap (option_map row_told) f

    pub told_allows : (n : ℕ) → allows (Some (row_told r)) n ≡ is_allowed number n
    unfolding is_allowed
    told_allows n = ap (λ (x : Option TableRow). allows x n) (sym told_row)

-- what is told of a front fixes it
pub one_front : (a b : Result Extent Reason) → front_told a ≡ front_told b → a ≡ b
one_front (Ok a) (Ok b) e =
    let k : a.kind ≡ b.kind = one_kind a.kind b.kind cc in
    let t : a.taken ≡ b.taken = cc in
    (λ i. Ok (record { kind = k i; taken = t i }))
one_front (Ok a) (Err b) e = cc
one_front (Err a) (Ok b) e = cc
one_front (Err a) (Err b) e = ap Err (one_reason a b cc)

-- a number has one kind, or none and one reason
pub one_kind_for : (number : ℕ) (a b : Result Kind Reason) → KindFor number a → KindFor number b → a ≡ b
one_kind_for number (Ok a) (Ok b) p q = ap Ok (one_kind a b (p.0 ∙ sym q.0))
one_kind_for number (Ok a) (Err b) p q = let e : ◌≡◌ {A = Bool} true false = sym p.1 ∙ q.1 in cc
one_kind_for number (Err a) (Ok b) p q = let e : ◌≡◌ {A = Bool} true false = sym q.1 ∙ p.1 in cc
one_kind_for number (Err a) (Err b) p q = ap Err (p.0 ∙ sym q.0)
