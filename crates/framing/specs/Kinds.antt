-- The kinds of frame (document 01, "Frame", the table), and what is computed from the table. Assumes nothing.
use Rattle.std.specs.Prelude.{ℕ, ◌+◌, ◌-◌, ◌%◌, ◌≡◌, max, Bool, true, false, cond, ◌&&◌, List, [], ◌∷◌, Option, Some, None, Result, MatchResult, eqb, leb}
use Rattle.answer.specs.declared.Reason.{Reason}
use Rattle.answer.specs.declared.Reason.TheVariants.{UnknownKind}
use Rattle.framing.specs.declared.kind.Kind.{Kind}
use Rattle.framing.specs.declared.kind.Kind.TheVariants.{Position, Text, CheckIn}
use Rattle.framing.specs.declared.kind.Row.{Row}

abbrev pub position : ℕ
position = 1

abbrev pub text : ℕ
text = 2

abbrev pub check_in : ℕ
check_in = 3

-- a kind's number, its least and its greatest plaintext, and the step from one length to the next
pub record TableRow : Type 0 where
  pub number : ℕ
  pub least : ℕ
  pub most : ℕ
  pub step : ℕ

abbrev pub row : (number least most step : ℕ) → TableRow
row number least most step = record { number = number; least = least; most = most; step = step }

-- the table: a position's 16 bytes, a text's 1 to 160, none in a check-in
unfoldable pub table : List TableRow
table = row position 16 16 16 ∷ row text 1 160 1 ∷ row check_in 0 0 1 ∷ []

-- the row of a kind
abbrev pub find_in : List TableRow → ℕ → Option TableRow
find_in [] kind = None
find_in (r ∷ rs) kind = cond (eqb r.number kind) (Some r) (find_in rs kind)

unfoldable pub row_of : ℕ → Option TableRow
row_of kind = find_in table kind

-- a plaintext of n bytes may stand in a frame of this row
abbrev pub holds : TableRow → ℕ → Bool
holds r n = leb r.least n && (leb n r.most && eqb ((n - r.least) % r.step) 0)

abbrev pub known : Option TableRow → Bool
known (Some r) = true
known None = false

-- a sealed part is a plaintext and a tag of 16
abbrev pub allows : Option TableRow → ℕ → Bool
allows (Some r) sealed = leb 16 sealed && holds r (sealed - 16)
allows None sealed = false

unfoldable pub is_known : ℕ → Bool
is_known kind = known (row_of kind)

unfoldable pub is_allowed : (kind sealed : ℕ) → Bool
is_allowed kind sealed = allows (row_of kind) sealed

-- the longest plaintext of some rows
abbrev pub greatest : List TableRow → ℕ
greatest [] = 0
greatest (r ∷ rs) = max r.most (greatest rs)

-- the longest plaintext of a frame of any kind, and the longest frame: 16 bytes before the sealed part, and a tag
unfoldable pub max_frame_plaintext : ℕ
max_frame_plaintext = greatest table

abbrev pub longest_frame : ℕ
longest_frame = 32 + max_frame_plaintext

-- what code has: a kind as its number, a row with that number, and the kind for a number, where the table has it
abbrev pub kind_number : Kind → ℕ
kind_number Position = position
kind_number Text = text
kind_number CheckIn = check_in

abbrev pub row_told : Row → TableRow
row_told r = row (kind_number r.kind) r.least r.most r.step

abbrev pub KindFor : ℕ → Result Kind Reason → Type 0
KindFor number r = MatchResult r (λ kind. (kind_number kind ≡ number) × (is_known number ≡ true)) (λ reason. (reason ≡ UnknownKind) × (is_known number ≡ false))
