-- The cases of document 01 for the hash record, proved of the definitions. Assumes nothing.
use mathlib.Core.Path.{◌≡◌, refl, sym, ap, ◌∙◌, subst}
use mathlib.Core.Bool.{true, cond, not}
use mathlib.Core.List.{List, [], ◌∷◌, ◌++◌, append-nil}
use Prim.Native.Nat.{ℕ, ◌%◌, ◌^◌, ◌<◌, ◌≤◌}
use lib.Dec.{lit<, lit≤}
use lib.ListN.{length, replicate}
use borrow.Author.Tests.{eq-eqb}
use Rattle.answer.specs.Answers.{done, not_whole_blocks}
use Rattle.octets.specs.Numbers.{number, bytes_of}
use Rattle.gf2.specs.Polyval.{unit}
use Rattle.octets.proofs.Numbers.{bytes_zeros, Bytes, number_lt, bytes_of-number, number-bytes_of, bytes_of-length, bytes_of_bytes}
use Rattle.gf2.proofs.Dot.{unit_lt}
use Rattle.field.specs.declared.field_element.FieldElement.{FieldElement}
use Rattle.field.specs.declared.rf.Counted.{Counted}
use Rattle.field.specs.Element.{element}
use Rattle.field.specs.Rf.{counted}
use Rattle.feeding.specs.declared.Power.{Power}
use Rattle.feeding.specs.declared.ExpandedKey.{ExpandedKey}
use Rattle.feeding.specs.declared.Route.{Route}
use Rattle.feeding.specs.declared.Route.TheVariants.{Wide}
use Rattle.rfc8452.specs.Machine.{run, polyval}
use Rattle.rfc8452.specs.Blocks.{blocks_n, blocks}
use Rattle.feeding.specs.Key.{key_of, expansion_cost, check_of}
use Rattle.rfc8452.proofs.Cut.{blocks_one}
use Rattle.feeding.proofs.Check.{made_checks}
use Rattle.rfc8452.proofs.PolyvalCases.{zero_key, unit_key_lem}
use Rattle.feeding.proofs.KeyCases.{zero_belongs}
use Rattle.feeding.specs.declared.Hash.{Hash}
use Rattle.feeding.specs.Record.{filled, pending_of, held_by, zero_hash, holding, fed_or}
use Rattle.feeding.specs.Calls.{absorbed, start_of, whole_of, padded_of, piece_of, tagged, finish_of, reset_of}
use Rattle.feeding.specs.Feeds.{Feed, Whole, Accepted, fed_all, fed_string}
use Rattle.feeding.proofs.Start.{AllBytes, started, from_start}

-- "Refusing an all_zero hash key" is ruled out, and it hashes everything to zero
pub zero_started : (start_of (replicate 16 0)).answer ≡ 0
zero_started = refl

pub zero_hash_lem : (fs : List Feed) (route : Route) → AllBytes fs → Accepted (start_of (replicate 16 0)).hash fs
    → (finish_of route (fed_all (start_of (replicate 16 0)).hash fs)).tag ≡ replicate 16 0
unfolding number bytes_of
zero_hash_lem fs route b ok = (from_start (replicate 16 0) refl (bytes_zeros 16) fs route b ok).1 ∙ ap (bytes_of 16) (zero_key (blocks (fed_string fs)))

-- the key is the number of the 16 bytes, and nothing is absorbed or pending
pub start_made : start_of (1 ∷ 2 ∷ replicate 14 0)
    ≡ record { answer = 0; hash = record { key = key_of 0x0201; acc = record { lo = 0; hi = 0 }; pending = replicate 16 0; count = 0 }; multiplies = 19 }
unfolding number
start_made = refl

-- a key of 16 bytes alone is taken
pub fifteen_start : start_of (replicate 15 7) ≡ record { answer = 1; hash = zero_hash; multiplies = 0 }
fifteen_start = refl

pub seventeen_start : start_of (replicate 17 7) ≡ record { answer = 1; hash = zero_hash; multiplies = 0 }
seventeen_start = refl

pub fifteen_zeros : (start_of (replicate 15 0)).answer ≡ 1
fifteen_zeros = refl

-- "One constant hash must fail: under the unit key a single block hashes to itself"
abbrev unit_key : List ℕ
unit_key = bytes_of 16 unit

-- one block is accepted by a record that start has made
pub block_accepted : (key x : List ℕ) (route : Route) → length key ≡ 16 → Bytes key → length x ≡ 16 → Accepted (start_of key).hash (Whole route x ∷ [])
block_accepted key x route long b one = (
  ap (λ r. (whole_of route r.hash x).answer) (started key long b)
      ∙ ap (λ t. (fed_or (cond (not t) not_whole_blocks done) (absorbed route (holding (key_of (number key)) (counted 0 expansion_cost) []).hash x)).answer)
      (eq-eqb (length x % 16) 0 (ap (λ n. n % 16) one)),
  tt,
)

pub unit_hash : (x : List ℕ) (route last : Route) → length x ≡ 16 → Bytes x
    → (finish_of last (fed_all (start_of unit_key).hash (Whole route x ∷ []))).tag ≡ x
unit_hash x route last long b =
    let ok = block_accepted unit_key x route (bytes_of-length 16 unit) (bytes_of_bytes 16 unit) long in
    (from_start unit_key (bytes_of-length 16 unit) (bytes_of_bytes 16 unit) (Whole route x ∷ []) last (b, tt) ok).1
    ∙ (λ i. bytes_of 16 (polyval (number-bytes_of 16 unit unit_lt i) ((ap blocks (append-nil x) ∙ blocks_one x (subst (λ n. 0 < n) (sym long) (lit< tt)) (subst (λ n. n ≤ 16) (sym long) (lit≤ tt))) i)))
    ∙ ap (bytes_of 16) (unit_key_lem (number x) (subst (λ n. number x < 256 ^ n) long (number_lt x b)))
    ∙ ap (λ n. bytes_of n (number x)) (sym long) ∙ bytes_of-number x b

-- 15 pending bytes stand, 16 do not, in every call that takes a record
abbrev claiming : ℕ → Hash
claiming n = record { key = key_of 1; acc = element 0; pending = replicate 16 7; count = n }

pub fifteen_stand : (finish_of Wide (claiming 15)).answer ≡ 0
fifteen_stand = refl

pub sixteen_finish : finish_of Wide (claiming 16) ≡ record { answer = 14; tag = replicate 16 0; multiplies = 0 }
sixteen_finish = refl

pub sixteen_reset : reset_of (claiming 16) ≡ record { answer = 14; hash = zero_hash; multiplies = 0 }
sixteen_reset = refl

pub sixteen_piece : piece_of Wide (claiming 16) [] ≡ record { answer = 14; hash = zero_hash; multiplies = 0 }
sixteen_piece = refl

-- an empty feed adds no block, and clears the stored bytes
pub empty_feed : (padded_of Wide (claiming 0) []).hash ≡ record { key = key_of 1; acc = element 0; pending = replicate 16 0; count = 0 }
unfolding run blocks blocks_n
empty_feed = refl

-- "Any count, hash, tag, record or position it returns is all zero", written out
abbrev zero : Power
zero = record { h = record { lo = 0; hi = 0 }; d = record { lo = 0; hi = 0 } }

pub all_zero : zero_hash
    ≡ record {
      key = record { powers = zero ∷ zero ∷ zero ∷ zero ∷ [] };
      acc = record { lo = 0; hi = 0 };
      pending = 0 ∷ 0 ∷ 0 ∷ 0 ∷ 0 ∷ 0 ∷ 0 ∷ 0 ∷ 0 ∷ 0 ∷ 0 ∷ 0 ∷ 0 ∷ 0 ∷ 0 ∷ 0 ∷ [];
      count = 0;
    }
all_zero = refl

-- what a record holds after a call: zeros past the bytes kept; what it keeps is found by the count; a call begins with nothing spent
pub two_kept : (key : ExpandedKey) (made : Counted) → holding key made (5 ∷ 6 ∷ [])
    ≡ record { answer = 0; hash = record { key = key; acc = made.element; pending = 5 ∷ 6 ∷ replicate 14 0; count = 2 }; multiplies = made.multiplies }
two_kept key made = refl

pub fill_ends : (filled [] ≡ replicate 16 0) × (filled (replicate 15 7) ≡ replicate 15 7 ++ 0 ∷ []) × (filled (replicate 16 7) ≡ replicate 16 7)
fill_ends = (refl, refl, refl)

pub two_pending : (key : ExpandedKey) (acc : FieldElement) → pending_of (record { key = key; acc = acc; pending = 5 ∷ 6 ∷ replicate 14 9; count = 2 }) ≡ 5 ∷ 6 ∷ []
two_pending key acc = refl

pub held_element : (h : Hash) → held_by h ≡ record { element = h.acc; multiplies = 0 }
held_element h = refl

-- the tag is the element's sixteen bytes, bit 0 of byte 0 the coefficient of 1
pub tag_bytes_lem : tagged (counted 0x0201 7) ≡ record { answer = 0; tag = 1 ∷ 2 ∷ replicate 14 0; multiplies = 7 }
unfolding bytes_of
tag_bytes_lem = refl

-- the record that a refusal returns has the key of H = 0, and its key passes the check
pub zero_record : zero_hash ≡ record { key = key_of 0; acc = record { lo = 0; hi = 0 }; pending = replicate 16 0; count = 0 }
zero_record = λ i. record { key = sym zero_belongs i; acc = element 0; pending = replicate 16 0; count = 0 }

pub zero_checks : check_of zero_hash.key ≡ true
zero_checks = ap check_of (sym zero_belongs) ∙ made_checks 0 (lit< tt)
