-- When a call is refused, with which number, and that it then hands back nothing: an all_zero record or tag, and no products or dots spent. Assumes nothing.
use mathlib.Core.Path.{◌≡◌, refl, ap, ◌∙◌}
use mathlib.Core.Bool.{Bool, true, false, cond, not}
use mathlib.Core.List.{List, [], ◌∷◌, ◌++◌}
use Prim.Native.Nat.{ℕ, ◌%◌, ◌<◌}
use lib.Dec.{eqb, ltb}
use lib.ListN.{length, replicate}
use borrow.Author.Tests.{lt-ltb, ne_eqb}
use Rattle.answer.specs.Answers.{done, key_length, not_whole_blocks, bad_record}
use Rattle.answer.specs.First.{first, ◌⇒◌}
use Rattle.octets.specs.Numbers.{number}
use Rattle.field.specs.Rf.{counted}
use Rattle.feeding.specs.declared.Route.{Route}
use Rattle.feeding.specs.declared.Hash.{Hash}
use Rattle.feeding.specs.Answers.{FedAnswer, FinishAnswer, JoinAnswer}
use Rattle.feeding.specs.Key.{key_of, expansion_cost, h_of, same_element}
use Rattle.feeding.specs.Record.{pending_of, holding, zero_hash, fed_or, finished_or}
use Rattle.feeding.specs.Calls.{start_answer, start_of, whole_answer, padded_answer, record_answer, absorbed, whole_of, padded_of, pieced, piece_of, finishing, tagged, finish_of, reset_of}
use Rattle.feeding.specs.Feeds.{Feed, Whole, Padded, Piece, feed_by}
use Rattle.feeding.specs.Join.{join_answer, joined_or, joined, join_of}

-- an answer, and nothing
abbrev pub no_record : ℕ → FedAnswer
no_record answer = record { answer = answer; hash = zero_hash; multiplies = 0 }

abbrev pub no_tag : ℕ → FinishAnswer
no_tag answer = record { answer = answer; tag = replicate 16 0; multiplies = 0 }

abbrev pub no_join : ℕ → JoinAnswer
no_join answer = record { answer = answer; hash = zero_hash; dots = 0 }

-- done keeps what was made; every other answer drops it
pub done_record : (made : FedAnswer) → fed_or 0 made ≡ made
done_record made = refl

pub no_record_lem : (n : ℕ) (made : FedAnswer) → (n ≡ 0 → ⊥) → fed_or n made ≡ no_record n
no_record_lem n made other = ap (λ t. cond t made (no_record n)) (ne_eqb n 0 other)

pub done_tag : (made : FinishAnswer) → finished_or 0 made ≡ made
done_tag made = refl

pub no_tag_lem : (n : ℕ) (made : FinishAnswer) → (n ≡ 0 → ⊥) → finished_or n made ≡ no_tag n
no_tag_lem n made other = ap (λ t. cond t made (no_tag n)) (ne_eqb n 0 other)

pub done_join : (made : JoinAnswer) → joined_or 0 made ≡ made
done_join made = refl

pub no_join_lem : (n : ℕ) (made : JoinAnswer) → (n ≡ 0 → ⊥) → joined_or n made ≡ no_join n
no_join_lem n made other = ap (λ t. cond t made (no_join n)) (ne_eqb n 0 other)

-- row 1: a hash key that is not 16 bytes
pub key_refused : (key : List ℕ) → (length key ≡ 16 → ⊥) → start_of key ≡ no_record 1
key_refused key other = ap (λ t. fed_or (cond (not t) key_length done) (holding (key_of (number key)) (counted 0 expansion_cost) [])) (ne_eqb (length key) 16 other)

-- row 14: "a whole-block or padded feed or a join meets pending bytes", which comes before row 3; "hash record claims more than 15 pending bytes"
module _ (h : Hash) where
  pub pending_whole : (route : Route) (s : List ℕ) → 0 < h.count → whole_of route h s ≡ no_record 14
  pending_whole route s some = λ i. fed_or (first (lt-ltb 0 h.count some i ⇒ bad_record ∷ not (eqb (length s % 16) 0) ⇒ not_whole_blocks ∷ [])) (absorbed route h s)

  pub pending_padded : (route : Route) (s : List ℕ) → 0 < h.count → padded_of route h s ≡ no_record 14
  pending_padded route s some = λ i. fed_or (first (lt-ltb 0 h.count some i ⇒ bad_record ∷ [])) (absorbed route h s)

  pub overfull_piece : (route : Route) (s : List ℕ) → 15 < h.count → piece_of route h s ≡ no_record 14
  overfull_piece route s many = λ i. fed_or (first (lt-ltb 15 h.count many i ⇒ bad_record ∷ [])) (pieced route h (pending_of h ++ s))

  pub overfull_finish : (route : Route) → 15 < h.count → finish_of route h ≡ no_tag 14
  overfull_finish route many = λ i. finished_or (first (lt-ltb 15 h.count many i ⇒ bad_record ∷ [])) (tagged (finishing route h))

  pub overfull_reset : 15 < h.count → reset_of h ≡ no_record 14
  overfull_reset many = λ i. fed_or (first (lt-ltb 15 h.count many i ⇒ bad_record ∷ [])) (holding h.key (counted 0 0) [])

-- "a join meets pending bytes", in either record; "a join meets unlike keys"
module _ (a b : Hash) (n : ℕ) where
  abbrev told : (s t u : Bool) → JoinAnswer
  told s t u = joined_or (first (s ⇒ bad_record ∷ t ⇒ bad_record ∷ u ⇒ bad_record ∷ [])) (joined a b n)

  abbrev unlike : Bool
  unlike = not (same_element (h_of a.key) (h_of b.key))

  second_told : (s u : Bool) → told s true u ≡ no_join 14
  second_told true u = refl
  second_told false u = refl

  third_told : (s t : Bool) → told s t true ≡ no_join 14
  third_told true t = refl
  third_told false true = refl
  third_told false false = refl

  pub pending_first : 0 < a.count → join_of a b n ≡ no_join 14
  pending_first some = ap (λ s. told s (ltb 0 b.count) unlike) (lt-ltb 0 a.count some)

  pub pending_second : 0 < b.count → join_of a b n ≡ no_join 14
  pending_second some = ap (λ t. told (ltb 0 a.count) t unlike) (lt-ltb 0 b.count some) ∙ second_told (ltb 0 a.count) unlike

  pub unlike_refused : same_element (h_of a.key) (h_of b.key) ≡ false → join_of a b n ≡ no_join 14
  unlike_refused other = ap (λ u. told (ltb 0 a.count) (ltb 0 b.count) (not u)) other ∙ third_told (ltb 0 a.count) (ltb 0 b.count)

-- by the outcome of the test, whatever the call would have made
either : (answer : ℕ) (made : FedAnswer) → made.answer ≡ done → ((fed_or answer made).answer ≡ done → ⊥) → fed_or answer made ≡ no_record (fed_or answer made).answer
either answer made m = by_test (eqb answer done)
  where
    by_test : (t : Bool) → ((cond t made (no_record answer)).answer ≡ done → ⊥) → cond t made (no_record answer) ≡ no_record (cond t made (no_record answer)).answer
    by_test true n = absurd (n m)
    by_test false n = refl

pub start_refused : (key : List ℕ) → ((start_of key).answer ≡ done → ⊥) → start_of key ≡ no_record (start_of key).answer
start_refused key = either (start_answer key) (holding (key_of (number key)) (counted 0 expansion_cost) []) refl

pub feed_refused : (f : Feed) (h : Hash) → ((feed_by f h).answer ≡ done → ⊥) → feed_by f h ≡ no_record (feed_by f h).answer
unfolding pieced
feed_refused (Whole route s) h = either (whole_answer h s) (absorbed route h s) refl
feed_refused (Padded route s) h = either (padded_answer h) (absorbed route h s) refl
feed_refused (Piece route s) h = either (record_answer h) (pieced route h (pending_of h ++ s)) refl

pub reset_refused : (h : Hash) → ((reset_of h).answer ≡ done → ⊥) → reset_of h ≡ no_record (reset_of h).answer
reset_refused h = either (record_answer h) (holding h.key (counted 0 0) []) refl

pub finish_refused : (route : Route) (h : Hash) → ((finish_of route h).answer ≡ done → ⊥) → finish_of route h ≡ no_tag (finish_of route h).answer
finish_refused route h = by_test (eqb (record_answer h) done)
  where
    made : FinishAnswer
    made = tagged (finishing route h)

    by_test : (t : Bool) → ((cond t made (no_tag (record_answer h))).answer ≡ done → ⊥)
        → cond t made (no_tag (record_answer h)) ≡ no_tag (cond t made (no_tag (record_answer h))).answer
    by_test true n = absurd (n refl)
    by_test false n = refl

pub join_refused : (a b : Hash) (n : ℕ) → ((join_of a b n).answer ≡ done → ⊥) → join_of a b n ≡ no_join (join_of a b n).answer
join_refused a b n = by_test (eqb (join_answer a b) done)
  where
    by_test : (t : Bool) → ((cond t (joined a b n) (no_join (join_answer a b))).answer ≡ done → ⊥)
        → cond t (joined a b n) (no_join (join_answer a b)) ≡ no_join (cond t (joined a b n) (no_join (join_answer a b))).answer
    by_test true x = absurd (x refl)
    by_test false x = refl
