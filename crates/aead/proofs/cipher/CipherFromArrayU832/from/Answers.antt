-- `aead::cipher::CipherFromArrayU832::from` meets its contract. Assumes nothing.
use lib.Dec.{lit≤}
use native.Mathlib.Bridge.{le_prop}
use Rattle.aead.specs.declared.cipher.Cipher.TheVariants.{Long}
use Rattle.aead.proofs.cipher.CipherFromArrayU832.from.Goals as goal

pub returns : goal.returns
returns c = λ i. Long (record { bytes = c.from.ensures i; has_a_round = le_prop c.from.result.has_a_round (lit≤ tt) i })
