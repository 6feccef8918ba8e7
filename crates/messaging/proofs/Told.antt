-- What is told of a reading and of a writing fixes what code has. Assumes nothing.
use Prim.Native.Nat.{ℕ}
use mathlib.Core.Path.{◌≡◌, refl, sym, ap}
use lib.IntN.{pos, neg_ℤ}
use Rattle.std.specs.Prelude.{Result, Ok, Err}
use Rattle.answer.specs.declared.Reason.{Reason}
use Rattle.answer.specs.declared.Reason.TheVariants.{NoRoom, OutOfRange}
use Rattle.framing.specs.declared.position.Position.{Position}
use Rattle.answer.proofs.Reasons.{never_done, one_reason}
use Rattle.messaging.specs.declared.Message.{Message}
use Rattle.messaging.specs.declared.Message.TheVariants as code
use Rattle.messaging.specs.Reading as message
use Rattle.messaging.specs.Reading.{Refused, reading_told}
use Rattle.messaging.specs.Write.{Written, written_told}

-- by literal: messages, and a refusal; a writing, and a refused one
abbrev somewhere : Position
somewhere = record { lat = neg_ℤ (pos 197975535); lon = pos 142042709; alt = pos 764569; time = 285208285 }

pub told_readings : (reading_told (Ok (code.Position somewhere 48)) ≡ message.Position somewhere 48) × (reading_told (Ok (code.Text 5 37)) ≡ message.Text 5 37)
    × (reading_told (Ok (code.CheckIn 32)) ≡ message.CheckIn 32) × (reading_told (Err OutOfRange) ≡ Refused 13)
told_readings = (refl, refl, refl, refl)

pub told_writings : (written_told (Ok 35) ≡ record { answer = 0; len = 35 }) × (written_told (Err NoRoom) ≡ record { answer = 7; len = 0 })
told_writings = (refl, refl)

pub one_message : (a b : Message) → reading_told (Ok a) ≡ reading_told (Ok b) → a ≡ b
one_message (code.Position p m) (code.Position q n) e = cc
one_message (code.Position p m) (code.Text l n) e = cc
one_message (code.Position p m) (code.CheckIn n) e = cc
one_message (code.Text k m) (code.Position q n) e = cc
one_message (code.Text k m) (code.Text l n) e = cc
one_message (code.Text k m) (code.CheckIn n) e = cc
one_message (code.CheckIn m) (code.Position q n) e = cc
one_message (code.CheckIn m) (code.Text l n) e = cc
one_message (code.CheckIn m) (code.CheckIn n) e = cc

-- a message is never told as a refusal
told_message : (m : Message) (r : ℕ) → reading_told (Ok m) ≡ Refused r → ⊥
told_message (code.Position p m) r e = cc
told_message (code.Text k m) r e = cc
told_message (code.CheckIn m) r e = cc

pub one_reading : (a b : Result Message Reason) → reading_told a ≡ reading_told b → a ≡ b
one_reading (Ok a) (Ok b) e = ap Ok (one_message a b e)
one_reading (Ok a) (Err r) e = absurd (told_message a _ e)
one_reading (Err r) (Ok b) e = absurd (told_message b _ (sym e))
one_reading (Err r) (Err s) e = ap Err (one_reason r s cc)

pub one_written : (a b : Result ℕ Reason) → written_told a ≡ written_told b → a ≡ b
one_written (Ok a) (Ok b) e = ap Ok (ap (λ (w : Written). w.len) e)
one_written (Ok a) (Err r) e = absurd (never_done r (sym (ap (λ (w : Written). w.answer) e)))
one_written (Err r) (Ok b) e = absurd (never_done r (ap (λ (w : Written). w.answer) e))
one_written (Err r) (Err s) e = ap Err (one_reason r s (ap (λ (w : Written). w.answer) e))
