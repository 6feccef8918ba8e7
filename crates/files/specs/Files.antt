-- What can be promised of files, whose contents are the system's. Assumes nothing.
use Rattle.std.specs.Prelude.{ℕ, ◌≡◌, ◌≤◌, Bool, true, false, List, length, take, ℤ, negsuc, ◌≤ℤ◌, Option, Some, None}
use Rattle.std.specs.declared.fs.File.{File}
use Rattle.std.specs.Fd.{file_raw_fd}
use Rattle.files.specs.declared.NamedFile.{NamedFile}

-- the descriptor of what was opened, or -1 where nothing was
abbrev pub descriptor_of : Option (NamedFile File) → ℤ
descriptor_of (Some named) = file_raw_fd named.file
descriptor_of None = negsuc 0

-- a descriptor, or -1 and no other negative number
pub record Opened (fd : ℤ) : Type 0 where
  pub least : negsuc 0 ≤ℤ fd

-- so many bytes are at the front of xs. The second part follows from the first, and spares a caller's `&xs[..n]` a proof file.
abbrev pub IsPrefixLen : ℕ → List ℕ → Type 0
IsPrefixLen n xs = (n ≤ length xs) × (n ≡ length (take n xs))

-- what a read tells: whether it failed, and how many bytes it counts
pub record Got : Type 0 where
  pub failed : Bool
  pub count : ℕ

-- the answer of a call as that: where there is no count, the call failed
abbrev pub got : Option ℕ → Got
got (Some n) = record { failed = false; count = n }
got None = record { failed = true; count = 0 }

-- the count lies within the buffer; and a failed read counts nothing, so that a caller who goes by the count misses no failure
pub record Read (g : Got) (buf : List ℕ) : Type 0 where
  pub within : IsPrefixLen g.count buf
  pub none : g.failed ≡ true → g.count ≡ 0
