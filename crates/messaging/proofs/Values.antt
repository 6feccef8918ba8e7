-- The values of a message: those of its kind, and of a refusal its number. Assumes nothing.
use Prim.Native.Nat.{ℕ}
use mathlib.Core.Path.{◌≡◌, refl, sym, ap, ◌∙◌}
use mathlib.Core.Bool.{Bool, true, false, cond}
use mathlib.Core.List.{List}
use borrow.Author.Tests.{eqb-true, eqb-false}
use lib.Dec.{eqb}
use lib.ListN.{length}
use Rattle.framing.specs.declared.position.Position.{Position}
use Rattle.framing.specs.Position.{position_of}
use Rattle.framing.specs.Kinds as kinds
use Rattle.framing.specs.Kinds.{table, is_known}
use Rattle.framing.proofs.Rows.{each_known}
use Rattle.messaging.specs.Reading.{Reading}
use Rattle.messaging.specs.Reading as message
use Rattle.messaging.specs.Message.{message_of, values_of}
use Rattle.framing.specs.Front.{kind_of, taken_of}
use Rattle.messaging.specs.Parts.{opened_in}
use Rattle.messaging.specs.Read.{or_refused, read_answer, read_of}
use Rattle.logic.proofs.Tests.{no}

-- a message that is not refused answers 0, and no other does
pub not_refused : (a : ℕ) (m r : Reading) → r ≡ or_refused a m → (values_of r).answer ≡ 0 → (a ≡ 0) × (r ≡ m)
not_refused a m r e z = by (eqb a 0) refl e
  where
    by : (b : Bool) → eqb a 0 ≡ b → r ≡ cond b m (message.Refused a) → (a ≡ 0) × (r ≡ m)
    by true q p = (eqb-true a 0 q, p)
    by false q p = absurd (eqb-false a 0 q (sym (ap (λ x. (values_of x).answer) p) ∙ z))

refused_value : (a : ℕ) (m : Reading) → (values_of m).answer ≡ 0 → (values_of (or_refused a m)).answer ≡ a
refused_value a m e = by (eqb a 0) refl
  where
    by : (b : Bool) → eqb a 0 ≡ b → (values_of (cond b m (message.Refused a))).answer ≡ a
    by true q = e ∙ sym (eqb-true a 0 q)
    by false q = refl

module _ (kind : ℕ) (text : List ℕ) (taken : ℕ) where
  -- a plaintext says one of these: what holds of each holds of it
  pub said : (P : Reading → Type 0) → P (message.Position (position_of text) taken) → P (message.Text (length text) taken) → P (message.CheckIn taken) → P (message_of kind text taken)
  said P p t c = by (eqb kind kinds.position) (eqb kind kinds.text)
    where
      by : (a b : Bool) → P (cond a (message.Position (position_of text) taken) (cond b (message.Text (length text) taken) (message.CheckIn taken)))
      by true b = p
      by false true = t
      by false false = c

  -- the kind and the bytes taken are among its values
  pub kind_value : is_known kind ≡ true → (values_of (message_of kind text taken)).kind ≡ kind
  unfolding table
  kind_value = each_known (λ (n : ℕ). (values_of (message_of n text taken)).kind ≡ n) (refl, (refl, (refl, tt))) kind

  pub taken_value : (values_of (message_of kind text taken)).taken ≡ taken
  taken_value = said (λ m. (values_of m).taken ≡ taken) refl refl refl

  -- it is not refused, so that a message, or the number that refuses it, has that number
  refusal_value : (a : ℕ) → (values_of (or_refused a (message_of kind text taken))).answer ≡ a
  refusal_value a = refused_value a (message_of kind text taken) (said (λ m. (values_of m).answer ≡ 0) refl refl refl)

  -- a position is the one that its bytes spell, and a text has their length
  pub spelled : (p : Position) (n : ℕ) → is_known kind ≡ true → message_of kind text taken ≡ message.Position p n → (kind ≡ kinds.position) × (position_of text ≡ p)
  spelled p n k e = (
    sym (kind_value k) ∙ ap (λ m. (values_of m).kind) e,
    said (λ m. m ≡ message.Position p n → position_of text ≡ p) (λ q. cc) (λ q. no (cc)) (λ q. no (cc)) e,
  )

  pub long : (l n : ℕ) → message_of kind text taken ≡ message.Text l n → length text ≡ l
  long l n = said (λ m. m ≡ message.Text l n → length text ≡ l) (λ q. no (cc)) (λ q. cc) (λ q. no (cc))

-- the number of what is read is the answer of reading
pub read_value : (key s : List ℕ) (room : ℕ) → (values_of (read_of key s room)).answer ≡ read_answer key s room
unfolding read_of
read_value key s room = refusal_value (kind_of s) (opened_in key s) (taken_of s) (read_answer key s room)
