-- Counter mode, for any block cipher and any way to the next counter block: RFC 8452 section 4 and SP 800-38D section 6.5 differ only in
-- that. Assumes nothing.
use Rattle.std.specs.Prelude.{ℕ, zero, suc, ◌+◌, ◌/◌, List, [], ◌++◌, length}
use Rattle.octets.specs.Strings.{xor_bytes}

-- n blocks of key stream, from the counter block c on: each counter block is encrypted
unfoldable pub stream : (next cipher : List ℕ → List ℕ) (n : ℕ) (c : List ℕ) → List ℕ
stream next cipher zero c = []
stream next cipher (suc n) c = cipher c ++ stream next cipher n (next c)

-- a text plus the key stream, of which as many blocks are made as the text has, a short last one counted
unfoldable pub masked : (next cipher : List ℕ → List ℕ) (c text : List ℕ) → List ℕ
masked next cipher c text = xor_bytes text (stream next cipher ((length text + 15) / 16) c)
