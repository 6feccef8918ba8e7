-- Two pieces, one after the other, are one piece: for any stored key, on every route. Assumes nothing.
use mathlib.Core.Path.{◌≡◌, refl, sym, ap, ap₂, ◌∙◌}
use mathlib.Core.Bool.{cond}
use mathlib.Core.List.{List, ◌++◌, append_assoc}
use Prim.Native.Nat.{ℕ, ◌+◌, ◌*◌, ◌/◌, ◌%◌, ◌≤◌}
use native.Mathlib.Omega.{arith}
use lib.ListN.{length, take, drop, length-append, take-append-drop}
use lib.Seq.{take-append-add, drop-append-add}
use borrow.Author.Tests.{le-ltb}
use Rattle.answer.specs.Answers.{done, bad_record}
use Rattle.field.specs.declared.field_element.FieldElement.{FieldElement}
use Rattle.field.specs.declared.rf.Counted.{Counted}
use Rattle.field.proofs.Element.{Sized}
use Rattle.feeding.specs.declared.Route.{Route}
use Rattle.rfc8452.specs.Blocks.{blocks}
use Rattle.feeding.specs.Formulas.{alone}
use Rattle.feeding.specs.Routes.{absorb_on}
use Rattle.rfc8452.proofs.Cut.{blocks_++}
use Rattle.feeding.proofs.Alone.{alone_++, alone_element}
use Rattle.feeding.specs.declared.Hash.{Hash}
use Rattle.feeding.specs.Record.{filled, pending_of, held_by, fed_or}
use Rattle.feeding.specs.Calls.{whole_part, short_part, pieced, piece_of}
use Rattle.feeding.proofs.Message.{whole_length, short_length, kept_again}

-- whole blocks of d, and of what is left of it with t behind
module _ (d t : List ℕ) where
  abbrev left : List ℕ
  left = short_part d ++ t

  split : d ++ t ≡ whole_part d ++ left
  split = ap (λ x. x ++ t) (sym (take-append-drop (length d / 16 * 16) d)) ∙ append_assoc (whole_part d) (short_part d) t

  cut : length (d ++ t) / 16 * 16 ≡ length (whole_part d) + length left / 16 * 16
  cut = omega (arith, length-append d t, length-append (short_part d) t, short_length d, whole_length d)

  whole_twice : whole_part (d ++ t) ≡ whole_part d ++ whole_part left
  whole_twice = ap₂ take cut split ∙ take-append-add (whole_part d) left (length left / 16 * 16)

  short_twice : short_part (d ++ t) ≡ short_part left
  short_twice = ap₂ drop cut split ∙ drop-append-add (whole_part d) left (length left / 16 * 16)

pub piece_made : (route : Route) (h : Hash) (s : List ℕ) → h.count ≤ 15 → piece_of route h s ≡ pieced route h (pending_of h ++ s)
piece_made route h s few = ap (λ b. fed_or (cond b bad_record done) (pieced route h (pending_of h ++ s))) (le-ltb 15 h.count few)

-- the record of a piece, from the element and the bytes that it is made of
abbrev kept_record : Hash → FieldElement → List ℕ → Hash
kept_record h acc kept = record { key = h.key; acc = acc; pending = filled kept; count = length kept }

pub pieces : (route : Route) (h : Hash) (s t : List ℕ) → Sized h.acc → h.count ≤ 15 → (piece_of route (piece_of route h s).hash t).hash ≡ (piece_of route h (s ++ t)).hash
unfolding pieced
pieces route h s t sized few =
    let d : List ℕ = pending_of h ++ s in
    let made : Counted = absorb_on route alone h.key (held_by h) (blocks (whole_part d)) in
    let h1 : Hash = (pieced route h d).hash in
    let n : length (whole_part d) % 16 ≡ 0 = ap (λ k. k % 16) (whole_length d) ∙ omega arith in
    let found : pending_of h1 ≡ short_part d = kept_again (short_part d) in
    let ys : List ℕ = blocks (whole_part (left d t)) in
    let acc : (absorb_on route alone h.key (held_by h1) ys).element ≡ (absorb_on route alone h.key (held_by h) (blocks (whole_part (d ++ t)))).element =
    alone_element route h.key (held_by h1) made ys refl ∙ ap (λ c. c.element) (sym (alone_++ h.key (held_by h) sized route (blocks (whole_part d)) ys))
    ∙ ap (λ xs. (absorb_on route alone h.key (held_by h) xs).element) (sym (ap blocks (whole_twice d t) ∙ blocks_++ (whole_part d) (whole_part (left d t)) n)) in
    ap (λ x. (piece_of route x t).hash) (ap (λ r. r.hash) (piece_made route h s few))
    ∙ ap (λ r. r.hash) (piece_made route h1 t (omega (arith, short_length d)))
    ∙ ap (λ p. kept_record h (absorb_on route alone h.key (held_by h1) (blocks (whole_part (p ++ t)))).element (short_part (p ++ t))) found
    ∙ ap₂ (kept_record h) acc (sym (short_twice d t))
    ∙ ap (λ x. kept_record h (absorb_on route alone h.key (held_by h) (blocks (whole_part x))).element (short_part x)) (append_assoc (pending_of h) s t)
    ∙ sym (ap (λ r. r.hash) (piece_made route h (s ++ t) few))
