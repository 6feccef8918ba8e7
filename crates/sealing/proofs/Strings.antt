-- The calls on strings (document 01, "Cases" and "What every promise fixes"). On strings of zeros each call answers as on their lengths: so each
-- string is asked by its own length, one too long or too short at a time; and against programs that always refuse, the longest plaintext seals and what was
-- sealed opens, with keys of both lengths. Nothing is computed on a string, so a limit may have any size. Assumes nothing.
use Prim.Native.Nat.{ℕ}
use mathlib.Core.Path.{◌≡◌}
use mathlib.Core.List.{List, []}
use native.Mathlib.Omega.{arith}
use lib.ListN.{length, replicate, length-replicate}
use Rattle.sealing.specs.Calls as calls
use Rattle.rfc8452.specs.Siv.{sealed, authentic}
use Rattle.sealing.specs.Siv.{seal_answer, open_answer}
use Rattle.sealing.proofs.Theorems.{open_seal}

zeros : ℕ → List ℕ
zeros n = replicate n 0

zeros_length : (n : ℕ) → length (zeros n) ≡ n
unfolding zeros
zeros_length n = length-replicate n 0

sealing_zeros : (key nonce ad text room : ℕ) → seal_answer (zeros key) (zeros nonce) (zeros ad) (zeros text) room ≡ calls.seal_answer key nonce ad text room
sealing_zeros key nonce ad text room = λ i. calls.seal_answer (zeros_length key i) (zeros_length nonce i) (zeros_length ad i) (zeros_length text i) room

opening_zeros : (key nonce ad s room : ℕ)
    → open_answer (zeros key) (zeros nonce) (zeros ad) (zeros s) room ≡ calls.open_answer key nonce ad s room (authentic (zeros key) (zeros nonce) (zeros ad) (zeros s))
opening_zeros key nonce ad s room =
    λ i. calls.open_answer (zeros_length key i) (zeros_length nonce i) (zeros_length ad i) (zeros_length s i) room (authentic (zeros key) (zeros nonce) (zeros ad) (zeros s))

seal_strings : (seal_answer (zeros 15) (zeros 12) (zeros 1024) (zeros 65536) 65552 ≡ 1) × (seal_answer (zeros 32) (zeros 13) (zeros 1024) (zeros 65536) 65552 ≡ 2)
    × (seal_answer (zeros 32) (zeros 12) (zeros 1025) (zeros 65536) 65552 ≡ 4) × (seal_answer (zeros 32) (zeros 12) (zeros 1024) (zeros 65537) 65553 ≡ 5)
    × (seal_answer (zeros 32) (zeros 12) (zeros 1024) (zeros 65536) 65551 ≡ 7)
seal_strings = (
  sealing_zeros 15 12 1024 65536 65552,
  sealing_zeros 32 13 1024 65536 65552,
  sealing_zeros 32 12 1025 65536 65552,
  sealing_zeros 32 12 1024 65537 65553,
  sealing_zeros 32 12 1024 65536 65551,
)

-- only an opening that passes all of it needs the tag
open_strings : (open_answer (zeros 15) (zeros 12) (zeros 1024) (zeros 65552) 65536 ≡ 1) × (open_answer (zeros 32) (zeros 13) (zeros 1024) (zeros 65552) 65536 ≡ 2)
    × (open_answer (zeros 32) (zeros 12) (zeros 1025) (zeros 65552) 65536 ≡ 4) × (open_answer (zeros 32) (zeros 12) (zeros 1024) (zeros 15) 65536 ≡ 6)
    × (open_answer (zeros 32) (zeros 12) (zeros 1024) (zeros 65553) 65537 ≡ 5) × (open_answer (zeros 32) (zeros 12) (zeros 1024) (zeros 65552) 65535 ≡ 7)
open_strings = (
  opening_zeros 15 12 1024 65552 65536,
  opening_zeros 32 13 1024 65552 65536,
  opening_zeros 32 12 1025 65552 65536,
  opening_zeros 32 12 1024 15 65536,
  opening_zeros 32 12 1024 65553 65537,
  opening_zeros 32 12 1024 65552 65535,
)

longest_seals : (seal_answer (zeros 16) (zeros 12) (zeros 1024) (zeros 65536) 65552 ≡ 0) × (seal_answer (zeros 32) (zeros 12) (zeros 1024) (zeros 65536) 65552 ≡ 0)
longest_seals = (sealing_zeros 16 12 1024 65536 65552, sealing_zeros 32 12 1024 65536 65552)

longest_opens : (open_answer (zeros 16) (zeros 12) (zeros 1024) (sealed (zeros 16) (zeros 12) (zeros 1024) (zeros 65536)) 65536 ≡ 0)
    × (open_answer (zeros 32) (zeros 12) (zeros 1024) (sealed (zeros 32) (zeros 12) (zeros 1024) (zeros 65536)) 65536 ≡ 0)
longest_opens = (
  open_seal (zeros 16) (zeros 12) (zeros 1024) (zeros 65536) 65552 65536 longest_seals.0 (omega (arith, zeros_length 65536)),
  open_seal (zeros 32) (zeros 12) (zeros 1024) (zeros 65536) 65552 65536 longest_seals.1 (omega (arith, zeros_length 65536)),
)

nothing_seals : seal_answer (zeros 32) (zeros 12) (zeros 1024) [] 16 ≡ 0
nothing_seals = λ i. calls.seal_answer (zeros_length 32 i) (zeros_length 12 i) (zeros_length 1024 i) 0 16

nothing_opens : open_answer (zeros 32) (zeros 12) (zeros 1024) (sealed (zeros 32) (zeros 12) (zeros 1024) []) 0 ≡ 0
nothing_opens = open_seal (zeros 32) (zeros 12) (zeros 1024) [] 16 0 nothing_seals (omega arith)
