-- A sealed part, for any mode: `mask` hides a text under a tag, `tag` gives a text its tag of 16 bytes. Assumes nothing.
use Rattle.std.specs.Prelude.{ℕ, ◌-◌, Bool, List, ◌++◌, length, take, drop}
use Rattle.octets.specs.Strings.{same_bytes}

-- the masked text, then the tag
unfoldable pub sealed_by : (mask : List ℕ → List ℕ → List ℕ) (tag : List ℕ → List ℕ) (text : List ℕ) → List ℕ
sealed_by mask tag text = mask (tag text) text ++ tag text

-- a sealed part comes apart: the last 16 bytes are the tag
abbrev pub body_of : List ℕ → List ℕ
body_of s = take (length s - 16) s

abbrev pub tag_of : List ℕ → List ℕ
tag_of s = drop (length s - 16) s

-- the text that it claims to hold
unfoldable pub opened_by : (mask : List ℕ → List ℕ → List ℕ) (s : List ℕ) → List ℕ
opened_by mask s = mask (tag_of s) (body_of s)

-- whether that text has that tag
unfoldable pub authentic_by : (mask : List ℕ → List ℕ → List ℕ) (tag : List ℕ → List ℕ) (s : List ℕ) → Bool
authentic_by mask tag s = same_bytes (tag (opened_by mask s)) (tag_of s)
