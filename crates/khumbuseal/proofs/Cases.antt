-- What a C caller finds in its cells, on small examples, computed: include/khumbuseal.h. Assumes nothing.
use Prim.Native.Nat.{ℕ}
use mathlib.Core.Path.{◌≡◌, refl, sym, ◌∙◌}
use mathlib.Core.Bool.{true, false}
use mathlib.Core.List.{List, [], ◌∷◌, map}
use lib.IntN.{pos, negsuc}
use Rattle.octets.specs.Numbers.{number, bytes_of}
use Rattle.feeding.specs.declared.Hash.{Hash}
use Rattle.feeding.specs.declared.Route.TheVariants.{Wide, Narrow, Rf}
use Rattle.framing.specs.Front.{Whole, Stop}
use Rattle.ghash.specs.declared.parts.Ghash.{Ghash}
use Rattle.messaging.specs.Reading as message
use Rattle.record.specs.Bytes.{record_bytes}
use Rattle.khumbuseal.specs.Cells.{stored, yes_or_no}
use Rattle.khumbuseal.specs.Hashing.{route_of, Stores, Joins}
use Rattle.khumbuseal.specs.Ghashing.{ghash_bytes, ghash_in, Begins}
use Rattle.khumbuseal.specs.Frames.{front_cells, message_cells}
use Rattle.khumbuseal.proofs.Laws.{stored_refused}

-- 1 is the narrow route, 2 R/F, and any other number the wide one
pub route_numbers : map route_of (0 ∷ 1 ∷ 2 ∷ 3 ∷ 255 ∷ []) ≡ Wide ∷ Narrow ∷ Rf ∷ Wide ∷ Wide ∷ []
route_numbers = refl

pub yes_is_1_and_no_0 : map yes_or_no (true ∷ false ∷ []) ≡ 1 ∷ 0 ∷ []
yes_is_1_and_no_0 = refl

-- a record is rewritten on answer 0 alone
pub rewritten_on_0_alone : map (λ (n : ℕ). stored n (10 ∷ []) (20 ∷ [])) (0 ∷ 1 ∷ 14 ∷ 255 ∷ []) ≡ (10 ∷ []) ∷ (20 ∷ []) ∷ (20 ∷ []) ∷ (20 ∷ []) ∷ []
rewritten_on_0_alone = refl

-- so of a call that made a record: its answer, its bytes and its count; a refusal leaves the bytes as they were
module _ (h : Hash) (before after : List ℕ) (r count : ℕ) where
  pub made_is_stored : (n : ℕ) → Stores (record { answer = 0; hash = h; multiplies = n }) before r after count → (r ≡ 0) × (after ≡ record_bytes h) × (count ≡ n)
  made_is_stored n p = (p.answer, p.memory, p.count)

  pub refused_is_not_stored : (n : ℕ) → (n ≡ 0 → ⊥) → Stores (record { answer = n; hash = h; multiplies = 0 }) before r after count → (r ≡ n) × (after ≡ before) × (count ≡ 0)
  refused_is_not_stored n refused p = (p.answer, p.memory ∙ sym (stored_refused n (record_bytes h) before refused), p.count)

  pub joined_is_stored : (n : ℕ) → Joins (record { answer = 0; hash = h; dots = n }) before r after count → (r ≡ 0) × (after ≡ record_bytes h) × (count ≡ n)
  joined_is_stored n p = (p.answer, p.memory, p.count)

  pub refused_join_is_not_stored : (n : ℕ) → (n ≡ 0 → ⊥) → Joins (record { answer = n; hash = h; dots = 0 }) before r after count → (r ≡ n) × (after ≡ before) × (count ≡ 0)
  refused_join_is_not_stored n refused p = (p.answer, p.memory ∙ sym (stored_refused n (record_bytes h) before refused), p.count)

-- a GHASH record's 32 bytes: POLYVAL's key for GHASH's and then the sum, each with its lowest byte first
abbrev one : Ghash
one =
    record {
      key = record { lo = 506097522914230528; hi = 1084818905618843912 };
      acc = record { lo = 1663540288323457296; hi = 2242261671028070680 };
    }

abbrev its_bytes : List ℕ
its_bytes =
    0 ∷ 1 ∷ 2 ∷ 3 ∷ 4 ∷ 5 ∷ 6 ∷ 7 ∷ 8 ∷ 9 ∷ 10 ∷ 11 ∷ 12 ∷ 13 ∷ 14 ∷ 15 ∷ 16 ∷ 17 ∷ 18 ∷ 19 ∷ 20 ∷ 21 ∷ 22 ∷ 23 ∷ 24 ∷ 25 ∷ 26 ∷ 27 ∷ 28 ∷ 29 ∷ 30 ∷ 31 ∷ []

pub ghash_record_written : ghash_bytes one ≡ its_bytes
unfolding bytes_of
ghash_record_written = refl

pub ghash_record_read : ghash_in its_bytes ≡ one
unfolding number
ghash_record_read = refl

pub begun_is_stored : (before after : List ℕ) (r : ℕ) → Begins (record { answer = 0; ghash = one }) before r after → (r ≡ 0) × (after ≡ its_bytes)
begun_is_stored before after r p = (p.answer, p.memory ∙ ghash_record_written)

pub refused_is_not_begun : (n : ℕ) (before after : List ℕ) (r : ℕ) → (n ≡ 0 → ⊥) → Begins (record { answer = n; ghash = one }) before r after → (r ≡ n) × (after ≡ before)
refused_is_not_begun n before after r refused p = (p.answer, p.memory ∙ sym (stored_refused n (ghash_bytes one) before refused))

-- the kind and the bytes of a whole frame; or why there is none, and zeros
pub front_of_a_frame : front_cells (Whole 2 40) ≡ record { answer = 0; kind = 2; taken = 40 }
front_of_a_frame = refl

pub front_of_none : front_cells (Stop 12) ≡ record { answer = 12; kind = 0; taken = 0 }
front_of_none = refl

-- a cell that the kind does not have is zero, and so are all on a refusal
pub position_cells : message_cells (message.Position (record { lat = pos 5; lon = negsuc 5; alt = pos 7; time = 8 }) 48) ≡ record { answer = 0; kind = 1; lat = pos 5; lon = negsuc 5; alt = pos 7; time = 8; len = 0; taken = 48 }
position_cells = refl

pub text_cells : message_cells (message.Text 9 41) ≡ record { answer = 0; kind = 2; lat = pos 0; lon = pos 0; alt = pos 0; time = 0; len = 9; taken = 41 }
text_cells = refl

pub check_in_cells : message_cells (message.CheckIn 32) ≡ record { answer = 0; kind = 3; lat = pos 0; lon = pos 0; alt = pos 0; time = 0; len = 0; taken = 32 }
check_in_cells = refl

pub refused_cells : message_cells (message.Refused 8) ≡ record { answer = 8; kind = 0; lat = pos 0; lon = pos 0; alt = pos 0; time = 0; len = 0; taken = 0 }
refused_cells = refl
