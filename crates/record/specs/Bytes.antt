-- A hash record as bytes, for callers in other languages: the stored powers, each with its D value, the element, the pending
-- store and the count, all little-endian. Assumes nothing.
use Rattle.std.specs.Prelude.{ℕ, zero, suc, ◌+◌, ◌*◌, List, [], ◌∷◌, ◌++◌, take, drop}
use Rattle.octets.specs.Numbers.{number, bytes_of}
use Rattle.field.specs.declared.field_element.FieldElement.{FieldElement}
use Rattle.field.specs.Element.{value, element}
use Rattle.feeding.specs.declared.Power.{Power}
use Rattle.feeding.specs.Key.{power_count}
use Rattle.feeding.specs.declared.Hash.{Hash}

-- an element has 16 bytes, and so has its D value
abbrev pub element_bytes : FieldElement → List ℕ
element_bytes e = bytes_of 16 (value e)

unfoldable pub powers_bytes : List Power → List ℕ
powers_bytes [] = []
powers_bytes (p ∷ ps) = element_bytes p.h ++ (element_bytes p.d ++ powers_bytes ps)

unfoldable pub record_bytes : Hash → List ℕ
record_bytes h = powers_bytes h.key.powers ++ (element_bytes h.acc ++ (h.pending ++ bytes_of 8 h.count))

-- the bytes of the stored key, and of the whole record
abbrev pub key_size : ℕ
key_size = power_count * 32

abbrev pub record_size : ℕ
record_size = key_size + 40

-- and back: what stands at a place
abbrev pub element_at : ℕ → List ℕ → FieldElement
element_at i b = element (number (take 16 (drop i b)))

abbrev pub power_in : ℕ → List ℕ → Power
power_in i b = record { h = element_at i b; d = element_at (i + 16) b }

unfoldable pub powers_at : (n i : ℕ) → List ℕ → List Power
powers_at zero i b = []
powers_at (suc n) i b = power_in i b ∷ powers_at n (i + 32) b

unfoldable pub record_of : List ℕ → Hash
record_of b =
    record {
      key = record { powers = powers_at power_count 0 b };
      acc = element_at key_size b;
      pending = take 16 (drop (key_size + 16) b);
      count = number (take 8 (drop (key_size + 32) b));
    }
