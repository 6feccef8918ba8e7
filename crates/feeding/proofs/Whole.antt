-- Joining is hashing the whole: two parts, and any list of whole-block parts in any bracketing. Assumes nothing.
use mathlib.Core.Path.{◌≡◌, refl, sym, ap, ap₂, ◌∙◌, subst}
use mathlib.Core.Bool.{true, cond, not, ◌&&◌}
use mathlib.Core.List.{List, [], ◌∷◌, ◌++◌}
use Prim.Native.Nat.{ℕ, ◌/◌, ◌%◌, ◌^◌, ◌<◌}
use native.Mathlib.Omega.{arith}
use lib.Dec.{ltb}
use lib.ListN.{length, replicate, length-append}
use lib.Pow.{pow_pos}
use borrow.Author.Tests.{eq-eqb}
use Rattle.answer.specs.Answers.{done, bad_record, not_whole_blocks}
use Rattle.answer.specs.First.{first, ◌⇒◌}
use Rattle.octets.specs.Xor.{◌⊕◌}
use Rattle.gf2.specs.Polyval.{dot}
use Rattle.octets.specs.Numbers.{number}
use Rattle.octets.proofs.Xor.{⊕-assoc, ⊕-zero}
use Rattle.gf2.proofs.Dot.{⊕-dot}
use Rattle.octets.proofs.Numbers.{Bytes, bytes_++, number_lt}
use Rattle.field.specs.declared.field_element.FieldElement.{FieldElement}
use Rattle.field.specs.Element.{value, element}
use Rattle.field.specs.Rf.{counted}
use Rattle.field.proofs.Element.{value_element, value_of, element_sized}
use Rattle.feeding.specs.declared.Route.{Route}
use Rattle.feeding.specs.declared.Route.TheVariants.{Wide, Narrow, Rf}
use Rattle.rfc8452.specs.Machine.{step, run}
use Rattle.rfc8452.specs.Blocks.{blocks}
use Rattle.feeding.specs.Key.{key_of, h_of, same_element, expansion_cost}
use Rattle.feeding.specs.Formulas.{in_groups}
use Rattle.rfc8452.proofs.Run.{run_lt, run_++}
use Rattle.rfc8452.proofs.Cut.{blocks_++}
use Rattle.rfc8452.proofs.Parts.{blocks-length, blocks_elements}
use Rattle.feeding.proofs.Check.{made_checks, value_h_of}
use Rattle.feeding.proofs.Agree.{groups_end, Checked, agree}
use Rattle.feeding.specs.declared.Hash.{Hash}
use Rattle.feeding.specs.Record.{holding, fed_or}
use Rattle.feeding.specs.Calls.{start_of, absorbed, whole_of}
use Rattle.feeding.proofs.Start.{started}
use Rattle.feeding.specs.Times.{times}
use Rattle.feeding.specs.Join.{joined, joined_or, join_of}
use Rattle.feeding.specs.Parts.{Parts, Part, Both, message, hash_of}

-- what stood before the blocks of xs is multiplied once for each of them
pub run_⊕ : (h a b : ℕ) (xs : List ℕ) → run h (a ⊕ b) xs ≡ times h (length xs) a ⊕ run h b xs
unfolding run step times
run_⊕ h a b [] = refl
run_⊕ h a b (x ∷ xs) = ap (λ s. run h s xs) (ap (λ n. dot n h) (⊕-assoc a b x) ∙ ⊕-dot a (b ⊕ x) h) ∙ run_⊕ h (dot a h) (dot (b ⊕ x) h) xs

-- "With n true and the first part made of whole blocks, that is the hash of the whole"
pub join_law : (h : ℕ) (s t : List ℕ) → length s % 16 ≡ 0 → times h (length (blocks t)) (run h 0 (blocks s)) ⊕ run h 0 (blocks t) ≡ run h 0 (blocks (s ++ t))
join_law h s t whole =
    let a : ℕ = run h 0 (blocks s) in
    sym (run_⊕ h a 0 (blocks t)) ∙ ap (λ n. run h n (blocks t)) (⊕-zero a) ∙ sym (run_++ h 0 (blocks s) (blocks t)) ∙ ap (run h 0) (sym (blocks_++ s t whole))

-- like keys are alike
alike : (e : FieldElement) → same_element e e ≡ true
alike e = ap₂ ◌&&◌ (eq-eqb e.lo e.lo refl) (eq-eqb e.hi e.hi refl)

-- the same of any two records with nothing pending, however their parts were fed and whatever else their keys store
pub join_hashes : (a b : Hash) (s t : List ℕ) → a.count ≡ 0 → b.count ≡ 0 → h_of a.key ≡ h_of b.key → length s % 16 ≡ 0
    → a.acc ≡ element (run (value (h_of a.key)) 0 (blocks s)) → b.acc ≡ element (run (value (h_of a.key)) 0 (blocks t))
    → ((join_of a b (length (blocks t))).answer ≡ done) × ((join_of a b (length (blocks t))).hash.acc ≡ element (run (value (h_of a.key)) 0 (blocks (s ++ t))))
join_hashes a b s t na nb keys whole ea eb =
    let h : ℕ = value (h_of a.key) in
    let n : ℕ = length (blocks t) in
    let same : same_element (h_of a.key) (h_of b.key) ≡ true = ap (same_element (h_of a.key)) (sym keys) ∙ alike (h_of a.key) in
    let made : join_of a b n ≡ joined a b n =
    λ i. joined_or (first (ltb 0 (na i) ⇒ bad_record ∷ ltb 0 (nb i) ⇒ bad_record ∷ not (same i) ⇒ bad_record ∷ [])) (joined a b n) in
    let size : (u : List ℕ) → run h 0 (blocks u) < 2 ^ 128 = λ u. run_lt h 0 (blocks u) (pow_pos 128) in (
      ap (λ r. r.answer) made,
      ap (λ r. r.hash.acc) made
          ∙ ap₂ (λ x y. element (times h n x ⊕ y)) (value_of (run h 0 (blocks s)) (size s) ea) (value_of (run h 0 (blocks t)) (size t) eb)
          ∙ ap element (join_law h s t whole),
    )

module _ (key : List ℕ) (long : length key ≡ 16) (bytes : Bytes key) where
  abbrev H : ℕ
  H = number key

  h_lt : H < 2 ^ 128
  h_lt = subst (λ n. number key < 256 ^ n) long (number_lt key bytes)

  -- the record of a message of whole blocks
  abbrev made : List ℕ → Hash
  made s = record { key = key_of H; acc = element (run H 0 (blocks s)); pending = replicate 16 0; count = 0 }

  good : (route : Route) → Checked route (key_of H)
  good Wide = tt
  good Narrow = tt
  good Rf = made_checks H h_lt

  pub fed_part : (route : Route) (s : List ℕ) → length s % 16 ≡ 0 → Bytes s → (whole_of route (start_of key).hash s).hash ≡ made s
  fed_part route s whole b =
      let begun : Hash = (holding (key_of H) (counted 0 expansion_cost) []).hash in
      let acc = agree route in_groups (key_of H) (record { element = element 0; multiplies = 0 }) (blocks s) (good route) groups_end (element_sized 0) (blocks_elements s b)
      ∙ ap (λ n. element (run n 0 (blocks s))) (value_h_of H h_lt) in
      ap (λ r. (whole_of route r.hash s).hash) (started key long bytes)
      ∙ ap (λ t. (fed_or (cond (not t) not_whole_blocks done) (absorbed route begun s)).hash) (eq-eqb (length s % 16) 0 whole)
      ∙ (λ i. record { key = key_of H; acc = acc i; pending = replicate 16 0; count = 0 })

  pub joined_made : (s t : List ℕ) → join_of (made s) (made t) (length t / 16) ≡ joined (made s) (made t) (length t / 16)
  joined_made s t = ap (λ b. joined_or (cond (not b) bad_record done) (joined (made s) (made t) (length t / 16))) (alike (h_of (key_of H)))

  pub join_parts : (s t : List ℕ) → length s % 16 ≡ 0 → length t % 16 ≡ 0 → (join_of (made s) (made t) (length t / 16)).hash ≡ made (s ++ t)
  join_parts s t whole-s whole-t =
      let n : length t / 16 ≡ length (blocks t) = sym (blocks-length t ∙ omega arith) in
      let small : (u : List ℕ) → value (element (run H 0 (blocks u))) ≡ run H 0 (blocks u) = λ u. value_element (run H 0 (blocks u)) (run_lt H 0 (blocks u) (pow_pos 128)) in
      let acc : times (value (h_of (key_of H))) (length t / 16) (value (made s).acc) ⊕ value (made t).acc ≡ run H 0 (blocks (s ++ t)) =
      (λ i. times (value_h_of H h_lt i) (n i) (small s i) ⊕ small t i) ∙ join_law H s t whole-s in
      ap (λ r. r.hash) (joined_made s t) ∙ (λ i. record { key = key_of H; acc = element (acc i); pending = replicate 16 0; count = 0 })

  -- every part is whole blocks
  abbrev pub AllWhole : Parts → Type 0
  AllWhole (Part route s) = (length s % 16 ≡ 0) × Bytes s
  AllWhole (Both a b) = AllWhole a × AllWhole b

  message_whole : (p : Parts) → AllWhole p → length (message p) % 16 ≡ 0
  message_whole (Part route s) w = w.0
  message_whole (Both a b) w =
      let l = message_whole a w.0 in
      let m = message_whole b w.1 in
      ap (λ n. n % 16) (length-append (message a) (message b)) ∙ omega arith

  message_bytes : (p : Parts) → AllWhole p → Bytes (message p)
  message_bytes (Part route s) w = w.1
  message_bytes (Both a b) w = bytes_++ (message a) (message b) (message_bytes a w.0) (message_bytes b w.1)

  parts_made : (p : Parts) → AllWhole p → hash_of key p ≡ made (message p)
  parts_made (Part route s) w = fed_part route s w.0 w.1
  parts_made (Both a b) w =
      ap₂ (λ x y. (join_of x y (length (message b) / 16)).hash) (parts_made a w.0) (parts_made b w.1)
      ∙ join_parts (message a) (message b) (message_whole a w.0) (message_whole b w.1)

  -- joining any list of whole-block parts, in any bracketing, is the hash of the whole
  pub joined_whole : (p : Parts) (route : Route) → AllWhole p → hash_of key p ≡ (whole_of route (start_of key).hash (message p)).hash
  joined_whole p route w = parts_made p w ∙ sym (fed_part route (message p) (message_whole p w) (message_bytes p w))
