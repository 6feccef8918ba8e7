-- What a refused writing or reading leaves: its number and nothing else. "Every refusal leaves all lent buffers and records unchanged. Any count,
-- hash, tag, record or position it returns is all zero." Assumes nothing.
use Prim.Native.Nat.{ℕ}
use mathlib.Core.Path.{◌≡◌, refl, sym, ap, ◌∙◌}
use mathlib.Core.List.{List, [], ◌∷◌}
use borrow.Author.Tests.{ne_eqb}
use lib.IntN.{pos}
use lib.ListN.{length}
use Rattle.framing.specs.Kinds as kinds
use Rattle.framing.specs.Front.{checks}
use Rattle.messaging.specs.Reading.{Reading, Refused}
use Rattle.messaging.specs.Message.{Values, values_of}
use Rattle.messaging.specs.Write.{Written, write_answer, written_of, write_out, Writes}
use Rattle.messaging.specs.Read.{read_answer, read_of, read_out, Reads}
use Rattle.messaging.proofs.Values.{read_value}

-- a refused writing says its number and no bytes, and leaves the output as it was
module _ (kind : ℕ) (key nonce text out : List ℕ) where
  pub refused_writing : (write_answer kind key nonce text (length out) ≡ 0 → ⊥)
      → (written_of kind key nonce text (length out) ≡ record { answer = write_answer kind key nonce text (length out); len = 0 }) × (write_out kind key nonce text out ≡ out)
  unfolding written_of write_out
  refused_writing h = (rw (ne_eqb (write_answer kind key nonce text (length out)) 0 h), rw (ne_eqb (write_answer kind key nonce text (length out)) 0 h))

  pub call_write_refused : (r : Written) (after : List ℕ) → Writes kind key nonce text out r after → (r.answer ≡ 0 → ⊥) → (r.len ≡ 0) × (after ≡ out)
  unfolding written_of
  call_write_refused r after w h =
      let both = refused_writing (λ e. h (ap (λ x. x.answer) w.answer ∙ e)) in
      (ap (λ x. x.len) (w.answer ∙ both.0), w.memory ∙ both.1)

-- a refused reading is its number, all other values zero, and leaves the output as it was
abbrev pub only_answer : ℕ → Values
only_answer r = record { answer = r; kind = 0; lat = pos 0; lon = pos 0; alt = pos 0; time = 0; len = 0; taken = 0 }

pub refused_message : (key s : List ℕ) (room : ℕ) → (read_answer key s room ≡ 0 → ⊥) → read_of key s room ≡ Refused (read_answer key s room)
unfolding read_of
refused_message key s room h = rw (ne_eqb (read_answer key s room) 0 h)

module _ (key s out : List ℕ) where
  pub refused_reading : (read_answer key s (length out) ≡ 0 → ⊥) → read_out key s out ≡ out
  unfolding read_out
  refused_reading h = rw (ne_eqb (read_answer key s (length out)) 0 h)

  pub call_read_refused : (r : Reading) (after : List ℕ) → Reads key s out r after → ((values_of r).answer ≡ 0 → ⊥) → (values_of r ≡ only_answer (values_of r).answer) × (after ≡ out)
  call_read_refused r after w h =
      let same : (values_of r).answer ≡ read_answer key s (length out) = ap (λ x. (values_of x).answer) w.answer ∙ read_value key s (length out) in
      let no : read_answer key s (length out) ≡ 0 → ⊥ = λ e. h (same ∙ e) in
      (ap values_of (w.answer ∙ refused_message key s (length out) no) ∙ ap only_answer (sym same), w.memory ∙ refused_reading no)

-- computed: an unknown kind is not written, what is no frame is not read
pub kind_4_leaves_nothing : (key nonce text : List ℕ)
    → (written_of 4 key nonce text 3 ≡ record { answer = 10; len = 0 }) × (write_out 4 key nonce text (7 ∷ 8 ∷ 9 ∷ []) ≡ 7 ∷ 8 ∷ 9 ∷ [])
unfolding written_of write_out write_answer kinds.is_known kinds.row_of kinds.table
kind_4_leaves_nothing key nonce text = (refl, refl)

pub no_frame_leaves_nothing : (key : List ℕ) → (values_of (read_of key (0x4C ∷ []) 3) ≡ only_answer 9) × (read_out key (0x4C ∷ []) (7 ∷ 8 ∷ 9 ∷ []) ≡ 7 ∷ 8 ∷ 9 ∷ [])
unfolding read_of read_out read_answer checks
no_frame_leaves_nothing key = (refl, refl)
