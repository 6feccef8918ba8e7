-- The word that bytes spell, the lowest first. Assumes nothing.
use Rattle.std.specs.Prelude.{ℕ, ◌≡◌, List, length}
use Rattle.octets.specs.Numbers.{number, bytes_of}

-- what std's `from_le_bytes` reads: the number of the bytes. That they are its bytes follows, and is what some callers use
pub record Joined (bytes : List ℕ) (r : ℕ) : Type 0 where
  pub value : r ≡ number bytes
  pub back : bytes_of (length bytes) r ≡ bytes
