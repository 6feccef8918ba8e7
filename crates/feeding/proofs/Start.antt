-- From start to finish: what is fed under a key of 16 bytes hashes to POLYVAL of the blocks it spells, on every route. Assumes nothing.
use mathlib.Core.Path.{◌≡◌, refl, sym, ap, ◌∙◌, subst}
use mathlib.Core.Bool.{true, cond, not}
use mathlib.Core.List.{List, [], ◌∷◌}
use Prim.Native.Nat.{ℕ, zero-le, ◌^◌, ◌<◌}
use lib.ListN.{length, replicate}
use borrow.Author.Tests.{eq-eqb, le-ltb}
use Rattle.answer.specs.Answers.{done, key_length, bad_record}
use Rattle.octets.specs.Numbers.{number, bytes_of}
use Rattle.octets.proofs.Numbers.{bytes_zeros, Bytes, number_lt}
use Rattle.field.specs.Rf.{counted}
use Rattle.field.proofs.Element.{element_sized}
use Rattle.feeding.specs.declared.Route.{Route}
use Rattle.feeding.specs.declared.Route.TheVariants.{Wide, Narrow, Rf}
use Rattle.rfc8452.specs.Machine.{run, polyval}
use Rattle.rfc8452.specs.Blocks.{blocks}
use Rattle.feeding.specs.Key.{key_of, check_of, expansion_cost}
use Rattle.feeding.proofs.Check.{made_checks, value_h_of}
use Rattle.feeding.proofs.Agree.{Checked}
use Rattle.feeding.specs.declared.Hash.{Hash}
use Rattle.feeding.specs.Record.{holding, fed_or}
use Rattle.feeding.specs.Calls.{record_answer, start_of, finish_of, reset_of}
use Rattle.feeding.specs.Feeds.{Feed, Accepted, fed_all, fed_string}
use Rattle.feeding.proofs.OneHash.{accepted_made, Stored, Proper, route_taken, fed_bytes, fed_list, fed_few, one_hash}

-- the feeds hold bytes
abbrev pub AllBytes : List Feed → Type 0
AllBytes [] = Unit {0}
AllBytes (f ∷ fs) = Bytes (fed_bytes f) × AllBytes fs

-- reset of any record: the whole stored key, nothing absorbed, nothing pending, nothing spent
pub reset_made : (h : Hash) → (reset_of h).answer ≡ done
    → reset_of h ≡ record { answer = done; hash = record { key = h.key; acc = record { lo = 0; hi = 0 }; pending = replicate 16 0; count = 0 }; multiplies = 0 }
reset_made h e = (accepted_made (record_answer h) (holding h.key (counted 0 0) []) refl e).1

module _ (key : List ℕ) (long : length key ≡ 16) (bytes : Bytes key) where
  h_lt : number key < 2 ^ 128
  h_lt = subst (λ n. number key < 256 ^ n) long (number_lt key bytes)

  -- start accepts the key, a zero one too
  pub started : start_of key ≡ holding (key_of (number key)) (counted 0 expansion_cost) []
  started = ap (λ t. fed_or (cond (not t) key_length done) (holding (key_of (number key)) (counted 0 expansion_cost) [])) (eq-eqb (length key) 16 long)

  -- "every expanded key we make passes it"
  pub start_checks : check_of (start_of key).hash.key ≡ true
  start_checks = ap (λ r. check_of r.hash.key) started ∙ made_checks (number key) h_lt

  abbrev begun : Hash
  begun = (holding (key_of (number key)) (counted 0 expansion_cost) []).hash

  good : (route : Route) → Checked route (key_of (number key))
  good Wide = tt
  good Narrow = tt
  good Rf = made_checks (number key) h_lt

  proper : (fs : List Feed) → AllBytes fs → Proper (key_of (number key)) fs
  proper [] b = tt
  proper (f ∷ fs) b = (good (route_taken f), b.0, proper fs b.1)

  stored : Stored begun
  stored = record { sized = element_sized 0; long = refl; bytes = bytes_zeros 16 }

  pub from_start : (fs : List Feed) (route : Route) → AllBytes fs → Accepted (start_of key).hash fs
      → ((finish_of route (fed_all (start_of key).hash fs)).answer ≡ done)
      × ((finish_of route (fed_all (start_of key).hash fs)).tag ≡ bytes_of 16 (polyval (number key) (blocks (fed_string fs))))
  from_start fs route b ok =
      let e = ap (λ r. r.hash) started in
      subst (λ h. ((finish_of route (fed_all h fs)).answer ≡ done) × ((finish_of route (fed_all h fs)).tag ≡ bytes_of 16 (polyval (number key) (blocks (fed_string fs))))) (sym e)
      (let r = one_hash begun fs route stored zero-le (proper fs b) (good route) (subst (λ h. Accepted h fs) e ok) in
      (r.0, r.1 ∙ ap (λ n. bytes_of 16 (run n 0 (blocks (fed_string fs)))) (value_h_of (number key) h_lt)))

  -- reset of a started record, whatever was fed to it, is the started record
  pub reset_started : (fs : List Feed) → AllBytes fs → Accepted (start_of key).hash fs → (reset_of (fed_all (start_of key).hash fs)).hash ≡ (start_of key).hash
  reset_started fs b ok =
      let e = ap (λ r. r.hash) started in
      let ok-begun = subst (λ h. Accepted h fs) e ok in
      let few = fed_few fs begun stored (proper fs b) ok-begun zero-le in
      subst (λ h. (reset_of (fed_all h fs)).hash ≡ h) (sym e)
      (ap (λ t. (fed_or (cond t bad_record done) (holding (fed_all begun fs).key (counted 0 0) [])).hash) (le-ltb 15 (fed_all begun fs).count few)
      ∙ ap (λ k. (holding k (counted 0 0) []).hash) (fed_list fs begun stored (proper fs b) ok-begun).1)
