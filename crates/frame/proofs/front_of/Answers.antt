-- `frame::front_of` meets its contract: each return is a law of framing's proofs/Fronts. Assumes nothing.
use Prim.Native.Nat.{ℕ, ◌+◌, ◌*◌}
use mathlib.Core.List.{List, [], ◌∷◌}
use mathlib.Core.Bool.{true}
use mathlib.Core.Path.{◌≡◌, refl, sym, ap, ap₂, ◌∙◌}
use native.Mathlib.Omega.{arith}
use mir.Syntax.{w16}
use Rattle.std.specs.Prelude.{Some, Err}
use Rattle.std.proofs.lemmas.Result.{err_from_is_err_and}
use Rattle.octets.specs.Numbers.{number}
use Rattle.octets.proofs.Endian.{from_le}
use Rattle.framing.specs.Kinds.{kind_number, is_known, is_allowed}
use Rattle.framing.specs.Front.{Whole, kind_of, sealed_len, front_told}
use Rattle.framing.proofs.Fronts.{no_mark, wrong_mark, no_kind, wrong_kind, no_length, wrong_length, no_end, whole}
use Rattle.framing.proofs.Told.{found_none, found_some, kind_found, none_found, told_allows}
use Rattle.frame.proofs.front_of.Goals as goal
use Rattle.frame.proofs.front_of.Goals.{In_ok-row, After-allows}

-- two bytes spell a length as the definition adds them up
two_bytes : (lo hi : ℕ) → number (lo ∷ hi ∷ []) ≡ lo + hi * 256
unfolding number
two_bytes lo hi = omega arith

pub returns-in_default : goal.returns-in_default
returns-in_default c = no_mark _ c.in_default.len_below

pub returns-then-mark-ne-MARK : goal.returns-then-mark-ne-MARK
returns-then-mark-ne-MARK c = wrong_mark _ c.in-len1-up.len_at_least c.if-mark-ne-MARK.true

pub returns-in_default-s : goal.returns-in_default-s
returns-in_default-s c = no_kind _ (omega arith) (omega arith) c.in_default-s.len_below

pub returns-in_err-row : goal.returns-in_err-row
returns-in_err-row c =
    let none = found_none c.row_of.result _ _ (sym c.ok_or.ensures.value ∙ c.in_err-row.was) in
    let p = err_from_is_err_and c.from_residual.result c.from_residual.ensures.1 in
    ap front_told (p.1 ∙ ap Err (p.2 ∙ none.1))
    ∙ wrong_kind _ (omega arith) (omega arith) c.in-len2-up.len_at_least (none_found _ c.row_of.result c.row_of.ensures none.0)

-- a row was found: the kind is known
module _ (c : In_ok-row) where
  abbrev s : List ℕ
  s = c.args.s.now

  row_is : c.row_of.result ≡ Some c.in_ok-row.row
  row_is = found_some _ _ _ (sym c.ok_or.ensures.value ∙ c.in_ok-row.was)

  kind_is : (kind_number c.in_ok-row.row.kind ≡ kind_of s) × (is_known (kind_of s) ≡ true)
  kind_is = kind_found (kind_of s) c.row_of.result c.row_of.ensures c.in_ok-row.row row_is

pub returns-in_default-s-2 : goal.returns-in_default-s-2
returns-in_default-s-2 c =
    no_length _ (omega arith) (omega arith) (omega arith) (kind_is (goal.at.returns-in_default-s-2 c).In_ok-row).1 c.in_default-s-2.len_below

-- the length was read, and asked of the row
module _ (c : After-allows) where
  len_is : c.from-sealed.result ≡ sealed_len c.args.s.now
  len_is = c.from-sealed.ensures ∙ c.from_le_bytes.ensures ∙ from_le w16 _ refl ∙ two_bytes _ _

  allowed_is : is_allowed (kind_of c.args.s.now) (sealed_len c.args.s.now) ≡ c.allows.result
  allowed_is =
      let d = (goal.at.After-allows c).In_ok-row in
      sym (c.allows.ensures ∙ told_allows (kind_of c.args.s.now) c.row_of.result c.row_of.ensures c.in_ok-row.row (row_is d) c.from-sealed.result ∙ ap (is_allowed (kind_of c.args.s.now)) len_is)

pub returns-then-not-allows : goal.returns-then-not-allows
returns-then-not-allows c =
    let d = (goal.at.returns-then-not-allows c).In_ok-row in
    let e = (goal.at.returns-then-not-allows c).After-allows in
    wrong_length _ (omega arith) (omega arith) (omega arith) (kind_is d).1 c.in-len4-up.len_at_least (allowed_is e ∙ c.if-not-allows.true)

pub returns-then-s-taken : goal.returns-then-s-taken
returns-then-s-taken c =
    let d = (goal.at.returns-then-s-taken c).In_ok-row in
    let e = (goal.at.returns-then-s-taken c).After-allows in
    no_end _ (omega arith) (omega arith) (omega arith) (kind_is d).1 c.in-len4-up.len_at_least (allowed_is e ∙ c.if-not-allows.false) (omega (arith, len_is e))

pub returns : goal.returns
returns c =
    let d = (goal.at.returns c).In_ok-row in
    let e = (goal.at.returns c).After-allows in
    ap₂ (λ (k n : ℕ). Whole k (16 + n)) (kind_is d).0 (len_is e)
    ∙ whole _ (omega arith) (omega arith) (omega arith) (kind_is d).1 c.in-len4-up.len_at_least (allowed_is e ∙ c.if-not-allows.false) (omega (arith, len_is e))
