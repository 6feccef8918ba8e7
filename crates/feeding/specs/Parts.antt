-- A message in parts, joined in any bracketing. Assumes nothing.
use Rattle.std.specs.Prelude.{ℕ, ◌/◌, List, ◌++◌, length}
use Rattle.feeding.specs.declared.Route.{Route}
use Rattle.feeding.specs.declared.Hash.{Hash}
use Rattle.feeding.specs.Calls.{start_of, whole_of}
use Rattle.feeding.specs.Join.{join_of}

-- one part, hashed on a route, or two groups of parts joined
pub data Parts : Type 0 where
  Part : Route → List ℕ → Parts
  Both : Parts → Parts → Parts

abbrev pub message : Parts → List ℕ
message (Part route s) = s
message (Both a b) = message a ++ message b

-- the record: each part fed to a fresh record under the key, and joined with the true number of blocks
abbrev pub hash_of : (key : List ℕ) → Parts → Hash
hash_of key (Part route s) = (whole_of route (start_of key).hash s).hash
hash_of key (Both a b) = (join_of (hash_of key a) (hash_of key b) (length (message b) / 16)).hash
