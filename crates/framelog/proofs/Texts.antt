-- A text that was read lies in the room for the longest, whatever it was read of. Assumes nothing.
use Prim.Native.Nat.{ℕ, ◌≤◌}
use mathlib.Core.Path.{◌≡◌, refl, sym, ap, ◌∙◌}
use mathlib.Core.Bool.{Bool, cond}
use mathlib.Core.List.{List}
use native.Mathlib.Omega.{arith}
use Rattle.std.specs.Prelude.{Result, Ok}
use Rattle.std.proofs.lemmas.Bool.{eq-eqb}
use Rattle.answer.proofs.First.{both_done}
use Rattle.framing.specs.Kinds.{table, max_frame_plaintext}
use Rattle.framing.specs.Front.{Whole, Stop, kind_of, taken_of, stop_of, front_of}
use Rattle.answer.specs.declared.Reason.{Reason}
use Rattle.messaging.specs.declared.Message.{Message}
use Rattle.messaging.specs.declared.Message.TheVariants.{Text}
use Rattle.messaging.specs.Reading as reading
use Rattle.messaging.specs.Reading.{reading_told}
use Rattle.messaging.specs.Message.{message_of}
use Rattle.messaging.specs.Parts.{opened_in}
use Rattle.messaging.specs.Read.{read_answer, read_of}
use Rattle.messaging.proofs.Values.{not_refused}
use Rattle.messaging.proofs.Texts.{text_fits}

-- the longest plaintext of a frame
pub longest_plaintext : max_frame_plaintext ≡ 160
unfolding max_frame_plaintext table
longest_plaintext = refl

-- where no reason to stop applies a whole frame stands
stands : (s : List ℕ) → stop_of s ≡ 0 → front_of s ≡ Whole (kind_of s) (taken_of s)
unfolding front_of
stands s z = ap (λ (b : Bool). cond b (Whole (kind_of s) (taken_of s)) (Stop (stop_of s))) (eq-eqb (stop_of s) 0 z)

fits : (key s : List ℕ) (room len taken : ℕ) → reading.Text len taken ≡ read_of key s room → len ≤ 160
unfolding read_of read_answer
fits key s room len taken e =
    let told = not_refused (read_answer key s room) (message_of (kind_of s) (opened_in key s) (taken_of s)) (reading.Text len taken) e refl in
    let short = text_fits key s room (kind_of s) (taken_of s) len taken (stands s (both_done (stop_of s) _ told.0).0) e in
    omega (arith, longest_plaintext)

-- as the code has it
pub text_in_room : (key s : List ℕ) (room : ℕ) (r : Result Message Reason) (len taken : ℕ)
    → reading_told r ≡ read_of key s room → r ≡ Ok (Text len taken) → len ≤ 160
text_in_room key s room r len taken e f = fits key s room len taken (sym (ap reading_told f) ∙ e)
