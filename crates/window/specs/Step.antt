-- One step of a reader that holds some bytes of a log. Assumes nothing.
use Rattle.std.specs.Prelude.{ℕ, Bool, true, false, cond, List, length, eqb}
use Rattle.answer.specs.Answers.{done, cut_short}
use Rattle.answer.specs.Reasons.{answer_of}
use Rattle.framing.specs.Kinds.{kind_number}
use Rattle.framing.specs.Front.{Front, Whole, Stop, front_of}
use Rattle.window.specs.declared.Step.{Step as CodeStep}
use Rattle.window.specs.declared.Step.TheVariants as code

-- a frame of this kind and so many bytes is reported, more is read, or the reader stops for this reason, 0 at the exact end
pub data Step : Type 0 where
  Frame : (kind taken : ℕ) → Step
  More : Step
  End : (reason : ℕ) → Step

-- what stands at the front of the bytes held: where it is cut short and the log has more, more is read
abbrev pub on_front : Bool → Front → Step
on_front last (Whole kind taken) = Frame kind taken
on_front last (Stop r) = cond last (End r) (cond (eqb r cut_short) More (End r))

-- with no bytes held, the log is at its exact end, or more is read
unfoldable pub step_of : (last : Bool) (held : List ℕ) → Step
step_of last held = cond (eqb (length held) 0) (cond last (End done) More) (on_front last (front_of held))

-- the number and the values of each case, and zero where it has none: whether more is read, why the log ends, and the frame
pub record Values : Type 0 where
  pub more : Bool
  pub stop : ℕ
  pub kind : ℕ
  pub taken : ℕ

abbrev pub values_of : Step → Values
values_of (Frame kind taken) = record { more = false; stop = done; kind = kind; taken = taken }
values_of More = record { more = true; stop = done; kind = 0; taken = 0 }
values_of (End r) = record { more = false; stop = r; kind = 0; taken = 0 }

-- what code has of it
abbrev pub step_told : CodeStep → Step
step_told (code.Frame frame) = Frame (kind_number frame.kind) frame.taken
step_told code.More = More
step_told (code.End stop) = End (answer_of stop)
