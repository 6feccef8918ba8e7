-- Sixteen bytes in the opposite order. Assumes nothing.
use mathlib.Core.Path.{◌≡◌, sym, ap, ◌∙◌, subst}
use mathlib.Core.List.{List, [], ◌∷◌, reverse, reverse_aux}
use Prim.Native.Nat.{ℕ, ◌^◌, ◌<◌}
use lib.ListN.{length, length-reverse}
use Rattle.octets.specs.Numbers.{bytes_of}
use Rattle.octets.proofs.Numbers.{Bytes, bytes_of-length, bytes_of_bytes, bytes_of-number, number_lt}
use Rattle.rfc8452.specs.AppendixA.{reversed}

bytes_onto : (s t : List ℕ) → Bytes s → Bytes t → Bytes (reverse_aux s t)
bytes_onto [] t bs bt = bt
bytes_onto (x ∷ s) t bs bt = bytes_onto s (x ∷ t) bs.1 (bs.0, bt)

pub bytes_reverse : (s : List ℕ) → Bytes s → Bytes (reverse s)
bytes_reverse s b = bytes_onto s [] b tt

sixteen : (x : ℕ) → length (reverse (bytes_of 16 x)) ≡ 16
sixteen x = length-reverse (bytes_of 16 x) ∙ bytes_of-length 16 x

pub reversed_lt : (x : ℕ) → reversed x < 2 ^ 128
reversed_lt x = subst (λ n. reversed x < 256 ^ n) (sixteen x) (number_lt (reverse (bytes_of 16 x)) (bytes_reverse (bytes_of 16 x) (bytes_of_bytes 16 x)))

pub bytes_of-reversed : (x : ℕ) → bytes_of 16 (reversed x) ≡ reverse (bytes_of 16 x)
bytes_of-reversed x =
    ap (λ n. bytes_of n (reversed x)) (sym (sixteen x)) ∙ bytes_of-number (reverse (bytes_of 16 x)) (bytes_reverse (bytes_of 16 x) (bytes_of_bytes 16 x))
