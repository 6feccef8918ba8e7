-- The layout of a record on bytes that all differ, on the all_zero record and on a small count, proved of the definitions. Assumes nothing.
use mathlib.Core.Path.{◌≡◌, refl}
use mathlib.Core.List.{List, [], ◌∷◌}
use Prim.Native.Nat.{ℕ, zero, suc}
use lib.ListN.{drop, replicate}
use Rattle.octets.specs.Numbers.{number, bytes_of}
use Rattle.field.specs.Element.{element}
use Rattle.feeding.specs.declared.Hash.{Hash}
use Rattle.feeding.specs.Record.{zero_hash}
use Rattle.record.specs.Bytes.{powers_bytes, record_bytes, key_size, record_size, powers_at, record_of}

-- four powers of 32 bytes, then 16 of the element, 16 pending and 8 of the count
pub key_size_lem : key_size ≡ 128
key_size_lem = refl

pub record_size_lem : record_size ≡ 168
record_size_lem = refl

-- n bytes that count up from k
unfoldable pub counting : (n k : ℕ) → List ℕ
counting zero k = []
counting (suc n) k = k ∷ counting n (suc k)

-- the record of the bytes 1, 2, .. 168: in each field they stand in the order of their places, the lowest last
abbrev spelled : Hash
spelled =
    record {
      key = record {
        powers =
            record { h = record { lo = 0x0807060504030201; hi = 0x100f0e0d0c0b0a09 }; d = record { lo = 0x1817161514131211; hi = 0x201f1e1d1c1b1a19 } } ∷
            record { h = record { lo = 0x2827262524232221; hi = 0x302f2e2d2c2b2a29 }; d = record { lo = 0x3837363534333231; hi = 0x403f3e3d3c3b3a39 } } ∷
            record { h = record { lo = 0x4847464544434241; hi = 0x504f4e4d4c4b4a49 }; d = record { lo = 0x5857565554535251; hi = 0x605f5e5d5c5b5a59 } } ∷
            record { h = record { lo = 0x6867666564636261; hi = 0x706f6e6d6c6b6a69 }; d = record { lo = 0x7877767574737271; hi = 0x807f7e7d7c7b7a79 } } ∷ [];
      };
      acc = record { lo = 0x8887868584838281; hi = 0x908f8e8d8c8b8a89 };
      pending = counting 16 0x91;
      count = 0xa8a7a6a5a4a3a2a1;
    }

pub layout_written : record_bytes spelled ≡ counting 168 1
unfolding record_bytes powers_bytes bytes_of counting
layout_written = refl

-- a byte behind the record has no part
pub layout_read : record_of (counting 169 1) ≡ spelled
unfolding record_of powers_at number counting
layout_read = refl

-- the record that a refusal returns is 168 zero bytes
pub zero_written : record_bytes zero_hash ≡ replicate 168 0
unfolding record_bytes powers_bytes bytes_of
zero_written = refl

pub zero_read : record_of (replicate 168 0) ≡ zero_hash
unfolding record_of powers_at number
zero_read = refl

-- a count of 258: the low byte first
pub count_written : drop 160 (record_bytes (record { key = zero_hash.key; acc = element 0; pending = replicate 16 0; count = 258 })) ≡ 2 ∷ 1 ∷ 0 ∷ 0 ∷ 0 ∷ 0 ∷ 0 ∷ 0 ∷ []
unfolding record_bytes powers_bytes bytes_of
count_written = refl
