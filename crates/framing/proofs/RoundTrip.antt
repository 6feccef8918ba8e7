-- A position and its sixteen bytes: each is got back from the other, so that no two positions share their bytes, and
-- any sixteen bytes spell one position. Assumes nothing.
use Prim.Native.Nat.{ℕ, ◌+◌, ◌^◌, ◌≤◌, ◌<◌}
use mathlib.Core.Path.{◌≡◌, refl, sym, ap, ◌∙◌}
use mathlib.Core.List.{List, ◌++◌}
use native.Mathlib.Omega.{arith}
use lib.IntN.{ℤ}
use lib.ListN.{length, take, drop, length-drop}
use lib.Seq.{length-take-le, take_all, take-add}
use mir.Syntax.{w32}
use mir.Val.{SFits}
use Rattle.octets.specs.Numbers.{number, bytes_of}
use Rattle.octets.proofs.Numbers.{Bytes, bytes_take, bytes_drop, number_lt, number-bytes_of, bytes_of-number}
use Rattle.framing.specs.declared.position.Position.{Position}
use Rattle.framing.specs.Signed.{signed, bits_of}
use Rattle.framing.specs.Position.{field_at, position_of, position_bytes}
use Rattle.framing.proofs.Complement.{signed_bits, bits_signed, bits_lt}

-- what the types of the four fields say: three are signed numbers of 32 bits, one is unsigned
pub record Fits (p : Position) : Type 0 where
  pub lat : SFits w32 p.lat
  pub lon : SFits w32 p.lon
  pub alt : SFits w32 p.alt
  pub time : p.time < 2 ^ 32

-- a position has sixteen bytes
pub position_length : (p : Position) → length (position_bytes p) ≡ 16
unfolding position_bytes bytes_of
position_length p = refl

-- the bytes of a position spell it
pub position_bytes_lem : (p : Position) → Fits p → position_of (position_bytes p) ≡ p
unfolding position_of position_bytes bytes_of
position_bytes_lem p f =
    let word : (z : ℤ) → SFits w32 z → signed (number (bytes_of 4 (bits_of z))) ≡ z = λ z h. ap signed (number-bytes_of 4 (bits_of z) (bits_lt z h)) ∙ signed_bits z h in
    (λ i. record {
      lat = word p.lat f.lat i;
      lon = word p.lon f.lon i;
      alt = word p.alt f.alt i;
      time = number-bytes_of 4 p.time f.time i;
    })

module _ (b : List ℕ) (bytes : Bytes b) (long : length b ≡ 16) where
  module _ (i : ℕ) (h : i + 4 ≤ 16) where
    four : length (take 4 (drop i b)) ≡ 4
    four = length-take-le 4 (drop i b) (rw length-drop (omega arith))

    pub word_lt : field_at i b < 2 ^ 32
    word_lt = rw four at (number_lt (take 4 (drop i b)) (bytes_take 4 (drop i b) (bytes_drop i b bytes)))

    back : bytes_of 4 (field_at i b) ≡ take 4 (drop i b)
    back = ap (λ n. bytes_of n (field_at i b)) (sym four) ∙ bytes_of-number (take 4 (drop i b)) (bytes_take 4 (drop i b) (bytes_drop i b bytes))

    signed_back : bytes_of 4 (bits_of (signed (field_at i b))) ≡ take 4 (drop i b)
    signed_back = ap (bytes_of 4) (bits_signed (field_at i b) word_lt) ∙ back

  -- sixteen bytes are the bytes of the position that they spell
  pub bytes_position : position_bytes (position_of b) ≡ b
  unfolding position_of position_bytes
  bytes_position =
      (λ i. signed_back 0 (omega arith) i ++ signed_back 4 (omega arith) i ++ signed_back 8 (omega arith) i ++ back 12 (omega arith) i)
      ∙ rw (← take-add 4 4 b, ← take-add 8 4 b, ← take-add 12 4 b) (take_all 16 b (omega arith))
