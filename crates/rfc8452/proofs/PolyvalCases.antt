-- Cases of POLYVAL: the RFC's example, and two keys that document 01 names. Assumes nothing.
use mathlib.Core.Path.{◌≡◌, refl, ap, ◌∙◌}
use mathlib.Core.List.{List, [], ◌∷◌}
use Prim.Native.Nat.{ℕ, ◌^◌, ◌<◌}
use Rattle.octets.specs.Xor.{◌⊕◌}
use Rattle.octets.proofs.Xor.{zero_⊕}
use Rattle.gf2.specs.Polyval.{dot, unit}
use Rattle.gf2.proofs.Dot.{dot_comm, dot-zero, unit_dot}
use Rattle.gf2.proofs.Cases.{printed, rfc_step_1, rfc_step_2}
use Rattle.rfc8452.specs.Machine.{step, run, polyval}

-- RFC 8452, appendix A: POLYVAL(H, X_1, X_2)
pub rfc_polyval : polyval (printed 0x25629347589242761d31f826ba4b757b) (printed 0x4f4f95668c83dfb6401762bb2d01a262 ∷ printed 0xd1a24ddd2721d006bbe45f20d3c9f362 ∷ [])
    ≡ printed 0xf7a3b47b846119fae5b7866cf5e5b77e
unfolding run step
rfc_polyval =
    ap (λ s. dot (s ⊕ printed 0xd1a24ddd2721d006bbe45f20d3c9f362) (printed 0x25629347589242761d31f826ba4b757b)) rfc_step_1 ∙ rfc_step_2

-- "the zero key's zero hash": any message
pub zero_key : (xs : List ℕ) → polyval 0 xs ≡ 0
unfolding run step
zero_key [] = refl
zero_key (x ∷ xs) = ap (λ s. run 0 s xs) (dot-zero (0 ⊕ x)) ∙ zero_key xs

-- "under the unit key a single block hashes to itself"
pub unit_key_lem : (x : ℕ) → x < 2 ^ 128 → polyval unit (x ∷ []) ≡ x
unfolding run step
unit_key_lem x l = dot_comm (0 ⊕ x) unit ∙ ap (dot unit) (zero_⊕ x) ∙ unit_dot x l
