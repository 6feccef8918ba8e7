-- The number of each reason, by literal; that it is never 0 and no other reason's, so that an answer of 0 is that of a call that did what it was asked, and
-- each other answer that of one reason. Assumes nothing.
use mathlib.Core.Path.{◌≡◌, refl, sym, ap}
use native.Mathlib.Omega.{arith}
use Rattle.std.specs.Prelude.{Result, Ok, Err}
use Rattle.answer.specs.declared.Reason.{Reason}
use Rattle.answer.specs.declared.Reason.TheVariants.{KeyLength, NonceLength, NotWholeBlocks, AdTooLong, TextTooLong, SealedTooShort, NoRoom, TagDiffers, NotAFrame, UnknownKind, LengthForKind, CutShort, OutOfRange, BadRecord, LogTooLong}
use Rattle.answer.specs.Reasons.{number_of, answer_of}

-- document 01's table, rows 1 to 15
pub reasons : (number_of KeyLength ≡ 1) × (number_of NonceLength ≡ 2) × (number_of NotWholeBlocks ≡ 3) × (number_of AdTooLong ≡ 4) × (number_of TextTooLong ≡ 5)
    × (number_of SealedTooShort ≡ 6) × (number_of NoRoom ≡ 7) × (number_of TagDiffers ≡ 8) × (number_of NotAFrame ≡ 9) × (number_of UnknownKind ≡ 10)
    × (number_of LengthForKind ≡ 11) × (number_of CutShort ≡ 12) × (number_of OutOfRange ≡ 13) × (number_of BadRecord ≡ 14) × (number_of LogTooLong ≡ 15)
reasons = (refl, refl, refl, refl, refl, refl, refl, refl, refl, refl, refl, refl, refl, refl, refl)

-- done, and a refusal
pub answers : {T : Type 0} (x : T) → (answer_of (Ok x) ≡ 0) × (answer_of {T = T} (Err TagDiffers) ≡ 8)
answers x = (refl, refl)

-- a reason is none of what is done
pub never_done : (reason : Reason) → number_of reason ≡ 0 → ⊥
never_done KeyLength e = omega arith
never_done NonceLength e = omega arith
never_done NotWholeBlocks e = omega arith
never_done AdTooLong e = omega arith
never_done TextTooLong e = omega arith
never_done SealedTooShort e = omega arith
never_done NoRoom e = omega arith
never_done TagDiffers e = omega arith
never_done NotAFrame e = omega arith
never_done UnknownKind e = omega arith
never_done LengthForKind e = omega arith
never_done CutShort e = omega arith
never_done OutOfRange e = omega arith
never_done BadRecord e = omega arith
never_done LogTooLong e = omega arith

-- each number names one reason: whoever has the number has the reason
pub one_reason : (a b : Reason) → number_of a ≡ number_of b → a ≡ b
one_reason a b e = grind arith

-- a call that returns nothing beside its answer returned one thing alone, once its answer is known
pub one_answer : (a b : Result Unit Reason) → answer_of a ≡ answer_of b → a ≡ b
one_answer (Ok _) (Ok _) e = refl
one_answer (Ok _) (Err b) e = absurd (never_done b (sym e))
one_answer (Err a) (Ok _) e = absurd (never_done a e)
one_answer (Err a) (Err b) e = ap Err (one_reason a b e)
