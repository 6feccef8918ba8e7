-- One hash, however it is fed: any list of accepted feeds, cut anywhere, on any mix of routes, ends with finish at what the machine gives for the
-- blocks that the feeds spell; on Wide and Narrow for any stored key, with an Rf step where the check says yes. Assumes nothing.
use mathlib.Core.Path.{◌≡◌, refl, sym, ap, ap₂, ◌∙◌, subst}
use mathlib.Core.Bool.{Bool, true, false, cond, not}
use mathlib.Core.List.{List, [], ◌∷◌, ◌++◌, append_assoc, append-nil}
use Prim.Native.Nat.{ℕ, ◌+◌, ◌-◌, ◌*◌, ◌/◌, ◌%◌, ◌≤◌}
use native.Mathlib.Omega.{arith}
use lib.Dec.{eqb, ltb, lit<, lit≤}
use lib.ListN.{length, take, replicate, length-append, length-replicate}
use borrow.Author.Tests.{eqb-true, ltb-false, le-ltb, not-false}
use Rattle.answer.specs.Answers.{done, bad_record, not_whole_blocks}
use Rattle.answer.specs.First.{◌⇒◌}
use Rattle.answer.proofs.First.{Told, Passed, all_passed}
use Rattle.octets.specs.Numbers.{bytes_of}
use Rattle.octets.proofs.Numbers.{Bytes, bytes_zeros, bytes_++, bytes_take, bytes_drop}
use Rattle.field.specs.declared.rf.Counted.{Counted}
use Rattle.field.specs.Element.{value, element}
use Rattle.field.proofs.Element.{Sized, value_lt, value_of, element_sized}
use Rattle.feeding.specs.declared.ExpandedKey.{ExpandedKey}
use Rattle.feeding.specs.declared.Route.{Route}
use Rattle.rfc8452.specs.Machine.{run}
use Rattle.rfc8452.specs.Blocks.{blocks}
use Rattle.feeding.specs.Key.{h_of}
use Rattle.feeding.specs.Formulas.{in_groups, alone}
use Rattle.feeding.specs.Routes.{absorb_on}
use Rattle.rfc8452.proofs.Run.{run_lt, run_++}
use Rattle.rfc8452.proofs.Cut.{blocks_++}
use Rattle.rfc8452.proofs.Parts.{blocks_elements}
use Rattle.feeding.proofs.Agree.{groups_end, lones_end, Checked, agree}
use Rattle.feeding.specs.declared.Hash.{Hash}
use Rattle.feeding.specs.Answers.{FedAnswer}
use Rattle.feeding.specs.Record.{pending_of, held_by, holding, zero_hash, fed_or, finished_or}
use Rattle.feeding.specs.Calls.{whole_answer, padded_answer, record_answer, absorbed, pieced, whole_part, short_part, finishing, tagged, finish_of}
use Rattle.feeding.specs.Feeds.{Feed, Whole, Padded, Piece, feed_by, Accepted, fed_all, to_blocks, stands_for, fed_string}
use Rattle.feeding.proofs.Message.{cut_blocks, short_length, kept_again, padded_whole, padded_blocks}

-- a call that answers 0 has refused nothing, and has made what it is to make
accepted : (answer : ℕ) (made : FedAnswer) → made.answer ≡ done → (fed_or answer made).answer ≡ done → answer ≡ done
accepted answer made m e = by_test (eqb answer done) refl e
  where
    by_test : (t : Bool) → eqb answer done ≡ t → (cond t made (record { answer = answer; hash = zero_hash; multiplies = 0 })).answer ≡ done → answer ≡ done
    by_test true t e = eqb-true answer done t
    by_test false t e = e

pub accepted_made : (answer : ℕ) (made : FedAnswer) → made.answer ≡ done → (fed_or answer made).answer ≡ done → (answer ≡ done) × (fed_or answer made ≡ made)
accepted_made answer made m e = let a = accepted answer made m e in (a, ap (λ n. fed_or n made) a)

-- what every record that code can hold is: its words fit, and it stores sixteen bytes
pub record Stored (h : Hash) : Type 0 where
  pub sized : Sized h.acc
  pub long : length h.pending ≡ 16
  pub bytes : Bytes h.pending

abbrev pub route_taken : Feed → Route
route_taken (Whole route s) = route
route_taken (Padded route s) = route
route_taken (Piece route s) = route

abbrev pub fed_bytes : Feed → List ℕ
fed_bytes (Whole route s) = s
fed_bytes (Padded route s) = s
fed_bytes (Piece route s) = s

-- an Rf step has a key whose check says yes, and bytes are fed
abbrev pub Proper : ExpandedKey → List Feed → Type 0
Proper key [] = Unit {0}
Proper key (f ∷ fs) = Checked (route_taken f) key × Bytes (fed_bytes f) × Proper key fs

abbrev pub hashed : Hash → List ℕ → ℕ
hashed h rest = run (value (h_of h.key)) (value h.acc) (blocks (pending_of h ++ rest))

-- one call: w is absorbed or kept, and whatever follows is hashed as it would be behind w
pub record Takes (h next : Hash) (w : List ℕ) : Type 0 where
  pub key : next.key ≡ h.key
  pub stored : Stored next
  pub few : next.count ≤ 15
  pub same : (rest : List ℕ) → hashed h (w ++ rest) ≡ hashed next rest

-- a record that has absorbed xs and keeps `kept`
module _ (h : Hash) (ok : Stored h) (c : Counted) (xs kept w : List ℕ) (made : c.element ≡ element (run (value (h_of h.key)) (value h.acc) xs))
    (few : length kept ≤ 15) (bytes : Bytes kept) (cut : (rest : List ℕ) → blocks (pending_of h ++ (w ++ rest)) ≡ xs ++ blocks (kept ++ rest)) where
  holding_step : Takes h (holding h.key c kept).hash w
  holding_step =
      record {
        key = refl;
        stored =
            record {
              sized = subst Sized (sym made) (element_sized r);
              long = length-append kept (replicate (16 - length kept) 0) ∙ ap (λ n. length kept + n) (length-replicate {A = ℕ} (16 - length kept) 0) ∙ omega arith;
              bytes = bytes_++ kept (replicate (16 - length kept) 0) bytes (bytes_zeros (16 - length kept));
            };
        few = few;
        same = λ rest.
            ap (run H s) (cut rest) ∙ run_++ H s xs (blocks (kept ++ rest))
            ∙ ap₂ (λ v t. run H v (blocks (t ++ rest))) (sym (value_of r (run_lt H s xs (value_lt h.acc ok.sized)) made)) (sym (kept_again kept));
      }
    where
      H : ℕ
      H = value (h_of h.key)

      s : ℕ
      s = value h.acc

      r : ℕ
      r = run H s xs

-- whole blocks and padded: nothing is pending, and nothing is kept
module _ (h : Hash) (ok : Stored h) (route : Route) (good : Checked route h.key) (s w : List ℕ) (bytes : Bytes s)
    (none : h.count ≡ 0) (whole : length w % 16 ≡ 0) (same_blocks : blocks w ≡ blocks s) where
  absorbed_step : Takes h (absorbed route h s).hash w
  absorbed_step =
      holding_step h ok (absorb_on route in_groups h.key (held_by h) (blocks s)) (blocks s) [] w
      (agree route in_groups h.key (held_by h) (blocks s) good groups_end ok.sized (blocks_elements s bytes)) (lit≤ tt) tt
      (λ rest. ap (λ n. blocks (take n h.pending ++ (w ++ rest))) none ∙ blocks_++ w rest whole ∙ ap (λ b. b ++ blocks rest) same_blocks)

-- a piece
module _ (h : Hash) (ok : Stored h) (route : Route) (good : Checked route h.key) (s : List ℕ) (bytes : Bytes s) where
  d : List ℕ
  d = pending_of h ++ s

  d_bytes : Bytes (pending_of h ++ s)
  d_bytes = bytes_++ (pending_of h) s (bytes_take h.count h.pending ok.bytes) bytes

  pieced_step : Takes h (pieced route h (pending_of h ++ s)).hash s
  unfolding pieced
  pieced_step =
      holding_step h ok (absorb_on route alone h.key (held_by h) (blocks (whole_part (pending_of h ++ s)))) (blocks (whole_part (pending_of h ++ s))) (short_part (pending_of h ++ s)) s
      (agree route alone h.key (held_by h) (blocks (whole_part (pending_of h ++ s))) good lones_end ok.sized
      (blocks_elements (whole_part (pending_of h ++ s)) (bytes_take (length (pending_of h ++ s) / 16 * 16) (pending_of h ++ s) d_bytes)))
      (omega (arith, short_length (pending_of h ++ s))) (bytes_drop (length (pending_of h ++ s) / 16 * 16) (pending_of h ++ s) d_bytes)
      (λ rest. ap blocks (sym (append_assoc (pending_of h) s rest)) ∙ cut_blocks (pending_of h ++ s) rest)

none_pending : (h : Hash) → ltb 0 h.count ≡ false → h.count ≡ 0
none_pending h e = let l = ltb-false 0 h.count e in omega arith

pub feed_step : (f : Feed) (h : Hash) → Stored h → Checked (route_taken f) h.key → Bytes (fed_bytes f) → (feed_by f h).answer ≡ done → Takes h (feed_by f h).hash (stands_for f)
unfolding Told Passed pieced
feed_step (Whole route s) h ok good bytes e =
    let a = accepted_made (whole_answer h s) (absorbed route h s) refl e in
    let tests = all_passed (ltb 0 h.count ⇒ bad_record ∷ not (eqb (length s % 16) 0) ⇒ not_whole_blocks ∷ []) (lit< tt, (lit< tt, tt)) a.0 in
    subst (λ x. Takes h x.hash s) (sym a.1)
    (absorbed_step h ok route good s s bytes (none_pending h tests.0) (eqb-true (length s % 16) 0 (not-false _ tests.1.0)) refl)
feed_step (Padded route s) h ok good bytes e =
    let a = accepted_made (padded_answer h) (absorbed route h s) refl e in
    let tests = all_passed (ltb 0 h.count ⇒ bad_record ∷ []) (lit< tt, tt) a.0 in
    subst (λ x. Takes h x.hash (to_blocks s)) (sym a.1)
    (absorbed_step h ok route good s (to_blocks s) bytes (none_pending h tests.0) (padded_whole s) (padded_blocks s))
feed_step (Piece route s) h ok good bytes e =
    let a = accepted_made (record_answer h) (pieced route h (pending_of h ++ s)) refl e in
    subst (λ x. Takes h x.hash s) (sym a.1) (pieced_step h ok route good s bytes)

-- the record after a list: the message so far is hashed into it
pub fed_list : (fs : List Feed) (h : Hash) → Stored h → Proper h.key fs → Accepted h fs
    → (Stored (fed_all h fs)) × ((fed_all h fs).key ≡ h.key) × ((rest : List ℕ) → hashed h (fed_string fs ++ rest) ≡ hashed (fed_all h fs) rest)
fed_list [] h ok proper done_all = (ok, refl, λ rest. refl)
fed_list (f ∷ fs) h ok proper done_all =
    let one = feed_step f h ok proper.0 proper.1 done_all.0 in
    let next = (feed_by f h).hash in
    let more = fed_list fs next one.stored (subst (λ k. Proper k fs) (sym one.key) proper.2) done_all.1 in
    (more.0, more.1 ∙ one.key, λ rest. ap (hashed h) (append_assoc (stands_for f) (fed_string fs) rest) ∙ one.same (fed_string fs ++ rest) ∙ more.2 rest)

-- after a feed at most 15 bytes are pending
pub fed_few : (fs : List Feed) (h : Hash) → Stored h → Proper h.key fs → Accepted h fs → h.count ≤ 15 → (fed_all h fs).count ≤ 15
fed_few [] h ok proper done_all few = few
fed_few (f ∷ fs) h ok proper done_all few =
    let one = feed_step f h ok proper.0 proper.1 done_all.0 in
    fed_few fs (feed_by f h).hash one.stored (subst (λ k. Proper k fs) (sym one.key) proper.2) done_all.1 one.few

-- finish answers 14 to a count over 15 alone
finish_made : (route : Route) (h : Hash) → h.count ≤ 15 → finish_of route h ≡ tagged (finishing route h)
finish_made route h few = ap (λ t. finished_or (cond t bad_record done) (tagged (finishing route h))) (le-ltb 15 h.count few)

-- the theorem, on any record that is not overfull
pub one_hash : (h : Hash) (fs : List Feed) (route : Route) → Stored h → h.count ≤ 15 → Proper h.key fs → Checked route h.key → Accepted h fs
    → ((finish_of route (fed_all h fs)).answer ≡ done) × ((finish_of route (fed_all h fs)).tag ≡ bytes_of 16 (hashed h (fed_string fs)))
one_hash h fs route ok few proper good done_all =
    let all = fed_list fs h ok proper done_all in
    let g = fed_all h fs in
    let made = finish_made route g (fed_few fs h ok proper done_all few) in
    let H : ℕ = value (h_of g.key) in
    let s : ℕ = value g.acc in
    let xs : List ℕ = blocks (pending_of g) in
    let last = agree route alone g.key (held_by g) xs (subst (Checked route) (sym all.1) good) lones_end all.0.sized
    (blocks_elements (pending_of g) (bytes_take g.count g.pending all.0.bytes)) in (
      ap (λ r. r.answer) made,
      ap (λ r. r.tag) made
          ∙ ap (bytes_of 16) (value_of (run H s xs) (run_lt H s xs (value_lt g.acc all.0.sized)) last
          ∙ ap (λ t. run H s (blocks t)) (sym (append-nil (pending_of g))) ∙ sym (all.2 []) ∙ ap (hashed h) (append-nil (fed_string fs))),
    )
