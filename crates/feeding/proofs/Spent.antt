-- The word products of each call are document 01's numbers, for any stored key. The plain routes count nothing. Assumes nothing.
use mathlib.Core.Path.{◌≡◌, refl, sym, ap, ◌∙◌, subst}
use mathlib.Core.Bool.{cond}
use mathlib.Core.List.{List, [], ◌++◌}
use Prim.Native.Nat.{ℕ, ◌+◌, ◌/◌, ◌^◌, ◌≤◌, ◌<◌}
use native.Mathlib.Omega.{arith}
use lib.ListN.{length, length-append}
use lib.Seq.{length-take-le}
use borrow.Author.Tests.{le-ltb}
use Rattle.answer.specs.Answers.{done, bad_record}
use Rattle.octets.specs.Numbers.{number}
use Rattle.field.specs.Rf.{counted}
use Rattle.feeding.specs.declared.Route.TheVariants.{Wide, Narrow, Rf}
use Rattle.rfc8452.specs.Blocks.{blocks}
use Rattle.feeding.specs.Key.{key_of, expansion_cost}
use Rattle.feeding.specs.Routes.{absorb_on}
use Rattle.feeding.specs.Formulas.{in_groups, alone}
use Rattle.rfc8452.proofs.Parts.{blocks-length}
use Rattle.feeding.proofs.Cost.{run_cost, groups_number, alone_number}
use Rattle.feeding.specs.Cost.{start_cost, blocks_cost, lones_cost}
use Rattle.feeding.specs.declared.Hash.{Hash}
use Rattle.feeding.specs.Record.{pending_of, held_by, holding, finished_or}
use Rattle.feeding.specs.Calls.{start_answer, start_of, absorbed, whole_of, padded_of, whole_part, pieced, piece_of, finishing, tagged, finish_of, whole_answer, padded_answer}
use Rattle.feeding.proofs.Message.{whole_length}
use Rattle.feeding.proofs.OneHash.{accepted_made}
use Rattle.feeding.proofs.Pieces.{piece_made}

-- whole blocks and padded
module _ (h : Hash) (s : List ℕ) (l : length s < 2 ^ 63) where
  abbrev n : ℕ
  n = length (blocks s)

  absorbed_spent : (absorbed Rf h s).multiplies ≡ blocks_cost n
  absorbed_spent =
      run_cost in_groups h.key.powers (held_by h) (blocks s) refl (subst (λ k. k < 2 ^ 64) (sym (groups_number n)) (omega (arith, blocks-length s))) ∙ groups_number n

  pub whole_spent : (whole_of Rf h s).answer ≡ done → (whole_of Rf h s).multiplies ≡ blocks_cost n
  whole_spent e = ap (λ r. r.multiplies) (accepted_made (whole_answer h s) (absorbed Rf h s) refl e).1 ∙ absorbed_spent

  pub padded_spent : (padded_of Rf h s).answer ≡ done → (padded_of Rf h s).multiplies ≡ blocks_cost n
  padded_spent e = ap (λ r. r.multiplies) (accepted_made (padded_answer h) (absorbed Rf h s) refl e).1 ∙ absorbed_spent

-- lone blocks of a string that is not too long
alone_spent : (h : Hash) (s : List ℕ) → length s < 2 ^ 63 + 16 → (absorb_on Rf alone h.key (held_by h) (blocks s)).multiplies ≡ lones_cost (length (blocks s))
alone_spent h s l =
    run_cost alone h.key.powers (held_by h) (blocks s) refl (subst (λ k. k < 2 ^ 64) (sym (alone_number (length (blocks s)))) (omega (arith, blocks-length s)))
    ∙ alone_number (length (blocks s))

-- pieces and finish
pub piece_spent : (h : Hash) (s : List ℕ) → h.count ≤ 15 → length h.pending ≡ 16 → length s < 2 ^ 63
    → (piece_of Rf h s).multiplies ≡ lones_cost ((h.count + length s) / 16)
unfolding pieced
piece_spent h s few long l =
    let d : List ℕ = pending_of h ++ s in
    let d_length : length d ≡ h.count + length s = length-append (pending_of h) s ∙ ap (λ k. k + length s) (length-take-le h.count h.pending (omega arith)) in
    ap (λ r. r.multiplies) (piece_made Rf h s few) ∙ alone_spent h (whole_part d) (omega (arith, whole_length d, d_length))
    ∙ ap lones_cost (blocks-length (whole_part d) ∙ omega (arith, whole_length d, d_length))

pub finish_spent : (h : Hash) → h.count ≤ 15 → length h.pending ≡ 16 → (finish_of Rf h).multiplies ≡ lones_cost (length (blocks (pending_of h)))
finish_spent h few long =
    ap (λ t. (finished_or (cond t bad_record done) (tagged (finishing Rf h))).multiplies) (le-ltb 15 h.count few)
    ∙ alone_spent h (pending_of h) (omega (arith, length-take-le h.count h.pending (omega arith)))

-- start expands the key; the plain routes spend nothing
pub start_spent : (key : List ℕ) → (start_of key).answer ≡ done → (start_of key).multiplies ≡ start_cost
start_spent key e = ap (λ r. r.multiplies) (accepted_made (start_answer key) (holding (key_of (number key)) (counted 0 expansion_cost) []) refl e).1

pub wide_spent : (h : Hash) (s : List ℕ) → (absorbed Wide h s).multiplies ≡ 0
wide_spent h s = refl

pub narrow_spent : (h : Hash) (s : List ℕ) → (absorbed Narrow h s).multiplies ≡ 0
narrow_spent h s = refl
