-- What the keys of one message make of a text, as code holds them. Assumes nothing.
use Rattle.std.specs.Prelude.{ℕ, List}
use Rattle.field.specs.Element.{value}
use Rattle.aead.specs.Cipher.{encrypted}
use Rattle.rfc8452.specs.Counter.{mask_under}
use Rattle.rfc8452.specs.Tag.{tag_under}
use Rattle.siv_parts.specs.declared.keys.Keys.{Keys}

-- its tag
abbrev pub tag_by : (k : Keys) (ad text : List ℕ) → List ℕ
tag_by k ad text = tag_under (value k.hash) (encrypted k.cipher) k.nonce ad text

-- the text masked under a tag
abbrev pub mask_by : (k : Keys) (tag text : List ℕ) → List ℕ
mask_by k tag text = mask_under (encrypted k.cipher) tag text
