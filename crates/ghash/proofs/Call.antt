-- The whole call as start, one feed and finish. Assumes nothing.
use mathlib.Core.Path.{◌≡◌, refl, sym, ap, ap₂, ◌∙◌}
use mathlib.Core.Bool.{Bool, true, false, cond, not}
use mathlib.Core.List.{List, map, reverse}
use Prim.Native.Nat.{ℕ, ◌%◌, ◌^◌, ◌<◌}
use native.Mathlib.Omega.{arith}
use lib.Dec.{eqb}
use lib.ListN.{length, replicate}
use lib.Pow.{pow_pos}
use Rattle.answer.specs.Answers.{done, key_length, not_whole_blocks}
use Rattle.octets.specs.Numbers.{number, bytes_of}
use Rattle.gf2.proofs.Remainder.{times_x_lt}
use Rattle.gf2.proofs.Dot.{polyval as field_is}
use Rattle.field.specs.Element.{value, element}
use Rattle.field.proofs.Element.{value_element}
use Rattle.rfc8452.specs.Machine.{run, polyval}
use Rattle.rfc8452.specs.Blocks.{blocks}
use Rattle.rfc8452.proofs.Run.{run_lt}
use Rattle.ghash.specs.declared.parts.Ghash.{Ghash}
use Rattle.rfc8452.specs.AppendixA.{reversed, key_for}
use Rattle.ghash.specs.Calls.{ghash_start_of, fed_of, ghash_tag_of, hashed_of, Started, Hashed}
use Rattle.rfc8452.proofs.Reversed.{reversed_lt}

pub key_for_lt : (key : List ℕ) → key_for key < 2 ^ 128
key_for_lt key = times_x_lt field_is (reversed (number key)) (reversed_lt (number key))

-- by the outcome of the tests: the key has 16 bytes, the blocks are whole
module _ (key s : List ℕ) where
  abbrev begun : Ghash
  begun = record { key = element (key_for key); acc = element 0 }

  abbrev tag : List ℕ
  tag = reverse (bytes_of 16 (polyval (key_for key) (map reversed (blocks s))))

  start_by : Bool → Started
  start_by t =
      cond (eqb (cond (not t) key_length done) done) (record { answer = done; ghash = begun })
      (record { answer = cond (not t) key_length done; ghash = record { key = element 0; acc = element 0 } })

  hashed_by : Bool → Bool → Hashed
  hashed_by t u =
      cond (eqb (cond (not t) key_length (cond (not u) not_whole_blocks done)) done) (record { answer = done; tag = tag })
      (record { answer = cond (not t) key_length (cond (not u) not_whole_blocks done); tag = replicate 16 0 })

  accepted_by : (t : Bool) → (start_by t).answer ≡ done → t ≡ true
  unfolding start_by
  accepted_by true e = refl
  accepted_by false e = absurd (omega arith)

  accepted : (ghash_start_of key).answer ≡ done → eqb (length key) 16 ≡ true
  unfolding start_by
  accepted e = accepted_by (eqb (length key) 16) e

  -- the hash
  fed_tag : ghash_tag_of (fed_of begun s) ≡ tag
  fed_tag =
      let xs : List ℕ = map reversed (blocks s) in
      let k : ℕ = value (element (key_for key)) in
      ap (λ n. reverse (bytes_of 16 n))
      (value_element (run k 0 xs) (run_lt k 0 xs (pow_pos 128)) ∙ ap (λ n. run n 0 xs) (value_element (key_for key) (key_for_lt key)))

  pub hashed : (ghash_start_of key).answer ≡ done → eqb (length s % 16) 0 ≡ true → ◌≡◌ {A = Hashed} (record { answer = done; tag = ghash_tag_of (fed_of (ghash_start_of key).ghash s) }) (hashed_of key s)
  unfolding start_by hashed_by
  hashed e u =
      (λ i. record { answer = done; tag = ghash_tag_of (fed_of (start_by (accepted e i)).ghash s) }) ∙ (λ i. record { answer = done; tag = fed_tag i }) ∙ sym (ap₂ hashed_by (accepted e) u)
