-- What the call promises is SP 800-38D's GHASH. Assumes nothing.
use mathlib.Core.Path.{◌≡◌, refl, sym, ap, ◌∙◌}
use mathlib.Core.List.{List, reverse, map}
use Prim.Native.Nat.{ℕ, ◌%◌}
use mathlib.Core.Bool.{Bool, true, false, cond, not}
use borrow.Author.Tests.{eqb-true}
use Rattle.answer.specs.Answers.{done, key_length, not_whole_blocks}
use lib.Dec.{eqb}
use lib.ListN.{length, replicate}
use Rattle.octets.specs.Numbers.{bytes_of}
use Rattle.octets.proofs.Numbers.{Bytes}
use Rattle.rfc8452.specs.Machine.{polyval}
use Rattle.rfc8452.specs.Blocks.{blocks}
use Rattle.sp800_38d.specs.Ghash.{ghash_of, bit_string, bit_blocks}
use Rattle.rfc8452.specs.AppendixA.{reversed, key_for}
use Rattle.ghash.specs.Calls.{hashed_of, nist_of, Hashed}
use Rattle.sp800_38d.proofs.Equal.{ghash_is}

-- the call's promise, in SP 800-38D's own terms
pub call_is : (key s : List ℕ) → Bytes key → Bytes s → hashed_of key s ≡ nist_of key s
call_is key s bk bs = by_key (eqb (length key) 16) refl
  where
    answer : Bool → ℕ
    answer t = cond (not t) key_length (cond (not (eqb (length s % 16) 0)) not_whole_blocks done)

    made : Bool → ℕ → Hashed
    made t v = cond (eqb (answer t) done) (record { answer = done; tag = reverse (bytes_of 16 v) }) (record { answer = answer t; tag = replicate 16 0 })

    by_key : (t : Bool) → eqb (length key) 16 ≡ t → made (eqb (length key) 16) (polyval (key_for key) (map reversed (blocks s))) ≡ made (eqb (length key) 16) (ghash_of (bit_string key) (bit_blocks s))
    by_key true e = ap (made (eqb (length key) 16)) (ghash_is key s bk (eqb-true (length key) 16 e) bs)
    by_key false e = ap (λ t. made t (polyval (key_for key) (map reversed (blocks s)))) e ∙ sym (ap (λ t. made t (ghash_of (bit_string key) (bit_blocks s))) e)
