-- Stored bytes past the pending count: they have no part in any answer, and are zero after any successful feed. Feeds and reset
-- keep the whole stored key. Assumes nothing.
use mathlib.Core.Path.{◌≡◌, refl, sym, ap, ◌∙◌, subst}
use mathlib.Core.Bool.{not}
use mathlib.Core.List.{List, [], ◌∷◌, ◌++◌}
use Prim.Native.Nat.{ℕ, ◌-◌, ◌%◌}
use lib.Dec.{eqb, ltb}
use lib.ListN.{length, drop, replicate}
use lib.Seq.{drop_at}
use Rattle.answer.specs.Answers.{done, bad_record, not_whole_blocks}
use Rattle.answer.specs.First.{first, ◌⇒◌}
use Rattle.field.specs.Rf.{counted}
use Rattle.feeding.specs.declared.Route.{Route}
use Rattle.rfc8452.specs.Blocks.{blocks}
use Rattle.feeding.specs.Formulas.{in_groups, alone}
use Rattle.feeding.specs.Routes.{absorb_on}
use Rattle.field.specs.declared.field_element.FieldElement.{FieldElement}
use Rattle.feeding.specs.declared.ExpandedKey.{ExpandedKey}
use Rattle.feeding.specs.declared.Hash.{Hash}
use Rattle.feeding.specs.Answers.{FedAnswer}
use Rattle.feeding.specs.Record.{filled, pending_of, holding, fed_or, finished_or}
use Rattle.feeding.specs.Calls.{whole_answer, padded_answer, record_answer, absorbed, pieced, whole_part, short_part, tagged, finish_of, reset_of}
use Rattle.feeding.specs.Join.{join_of}
use Rattle.feeding.specs.Feeds.{Feed, Whole, Padded, Piece, feed_by}
use Rattle.feeding.proofs.OneHash.{accepted_made}

-- two records that differ at most in stored bytes past the count
pub record Alike (g h : Hash) : Type 0 where
  pub key : g.key ≡ h.key
  pub acc : g.acc ≡ h.acc
  pub count : g.count ≡ h.count
  pub kept : pending_of g ≡ pending_of h

-- what joining reads of a record
abbrev bare : ExpandedKey → FieldElement → ℕ → Hash
bare key acc count = record { key = key; acc = acc; pending = []; count = count }

module _ (g h : Hash) (a : Alike g h) where
  pub stale_feed : (f : Feed) → feed_by f g ≡ feed_by f h
  unfolding pieced
  stale_feed (Whole route s) =
      λ i. fed_or (first (ltb 0 (a.count i) ⇒ bad_record ∷ not (eqb (length s % 16) 0) ⇒ not_whole_blocks ∷ []))
      (holding (a.key i) (absorb_on route in_groups (a.key i) (record { element = a.acc i; multiplies = 0 }) (blocks s)) [])
  stale_feed (Padded route s) =
      λ i. fed_or (first (ltb 0 (a.count i) ⇒ bad_record ∷ []))
      (holding (a.key i) (absorb_on route in_groups (a.key i) (record { element = a.acc i; multiplies = 0 }) (blocks s)) [])
  stale_feed (Piece route s) =
      λ i. fed_or (first (ltb 15 (a.count i) ⇒ bad_record ∷ []))
      (holding (a.key i) (absorb_on route alone (a.key i) (record { element = a.acc i; multiplies = 0 }) (blocks (whole_part (a.kept i ++ s)))) (short_part (a.kept i ++ s)))

  pub stale_finish : (route : Route) → finish_of route g ≡ finish_of route h
  stale_finish route =
      λ i. finished_or (first (ltb 15 (a.count i) ⇒ bad_record ∷ []))
      (tagged (absorb_on route alone (a.key i) (record { element = a.acc i; multiplies = 0 }) (blocks (a.kept i))))

  pub stale_reset : reset_of g ≡ reset_of h
  stale_reset = λ i. fed_or (first (ltb 15 (a.count i) ⇒ bad_record ∷ [])) (holding (a.key i) (counted 0 0) [])

  pub stale_joined : (b : Hash) (n : ℕ) → join_of g b n ≡ join_of h b n
  stale_joined b n = λ i. join_of (bare (a.key i) (a.acc i) (a.count i)) b n

  pub stale_joining : (b : Hash) (n : ℕ) → join_of b g n ≡ join_of b h n
  stale_joining b n = λ i. join_of b (bare (a.key i) (a.acc i) (a.count i)) n

-- zeros past the count, and the key that was stored
pub record Clean (h next : Hash) : Type 0 where
  pub zeros : drop next.count next.pending ≡ replicate (16 - next.count) 0
  pub key : next.key ≡ h.key

clean : (h : Hash) (answer : ℕ) (made : FedAnswer) (kept : List ℕ) → made.answer ≡ done → made.hash.pending ≡ filled kept → made.hash.count ≡ length kept
    → made.hash.key ≡ h.key → (fed_or answer made).answer ≡ done → Clean h (fed_or answer made).hash
clean h answer made kept m p n k e =
    let is = (accepted_made answer made m e).1 in
    subst (λ r. Clean h r.hash) (sym is)
    (record { zeros = (λ i. drop (n i) (p i)) ∙ drop_at kept (replicate (16 - length kept) 0) (length kept) refl ∙ ap (λ c. replicate {A = ℕ} (16 - c) 0) (sym n); key = k })

pub fed_clean : (f : Feed) (h : Hash) → (feed_by f h).answer ≡ done → Clean h (feed_by f h).hash
unfolding pieced
fed_clean (Whole route s) h e = clean h (whole_answer h s) (absorbed route h s) [] refl refl refl refl e
fed_clean (Padded route s) h e = clean h (padded_answer h) (absorbed route h s) [] refl refl refl refl e
fed_clean (Piece route s) h e = clean h (record_answer h) (pieced route h (pending_of h ++ s)) (short_part (pending_of h ++ s)) refl refl refl refl e

pub reset_clean : (h : Hash) → (reset_of h).answer ≡ done → Clean h (reset_of h).hash
reset_clean h e = clean h (record_answer h) (holding h.key (counted 0 0) []) [] refl refl refl refl e
