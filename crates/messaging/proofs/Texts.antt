-- A text that was read has the length of its frame's plaintext, so that it lies in the room for the longest. Assumes nothing.
use Prim.Native.Nat.{ℕ, ◌≤◌}
use mathlib.Core.Path.{◌≡◌, refl, sym}
use mathlib.Core.List.{List}
use native.Mathlib.Omega.{arith}
use lib.ListN.{length}
use Rattle.framing.specs.Kinds.{max_frame_plaintext}
use Rattle.framing.specs.Front.{Whole, kind_of, taken_of, front_of}
use Rattle.messaging.specs.Reading as message
use Rattle.messaging.specs.Message.{message_of}
use Rattle.messaging.specs.Parts.{opened_in}
use Rattle.messaging.specs.Read.{read_answer, read_of}
use Rattle.messaging.proofs.Values.{not_refused, long}
use Rattle.messaging.proofs.Reading.{least, text_length}

pub text_fits : (key s : List ℕ) (room kind taken len t : ℕ) → front_of s ≡ Whole kind taken → message.Text len t ≡ read_of key s room → len ≤ max_frame_plaintext
unfolding read_of
text_fits key s room kind taken len t w e =
    let told = not_refused (read_answer key s room) (message_of (kind_of s) (opened_in key s) (taken_of s)) (message.Text len t) e refl in
    let l : length (opened_in key s) ≡ len = long (kind_of s) (opened_in key s) (taken_of s) len t (sym told.1) in
    let b = least key s kind taken w in
    omega (arith, text_length key s kind taken w)
