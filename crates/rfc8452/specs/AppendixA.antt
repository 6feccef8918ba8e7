-- GHASH by way of POLYVAL, RFC 8452 appendix A: the byte reverse of POLYVAL under mulX(reverse(H)) of the reversed blocks. Assumes nothing.
use Rattle.std.specs.Prelude.{ℕ, List, reverse}
use Rattle.gf2.specs.Polyval.{mulx}
use Rattle.octets.specs.Numbers.{number, bytes_of}

-- sixteen bytes in the opposite order
abbrev pub reversed : ℕ → ℕ
reversed x = number (reverse (bytes_of 16 x))

-- POLYVAL's key for GHASH's
abbrev pub key_for : List ℕ → ℕ
key_for key = mulx (reversed (number key))
