-- `aead::cipher::Cipher::under` meets its contract. Assumes nothing.
use mathlib.Core.Path.{sym, ap, ◌∙◌}
use borrow.Author.Tests.{eq-eqb, ne_eqb}
use lib.ListN.{length}
use Rattle.aead.specs.Cipher.{short_cipher, long_cipher, cipher_under}
use Rattle.aead.proofs.cipher.Cipher.under.Goals as goal

pub returns-in-Some : goal.returns-in-Some
unfolding cipher_under
returns-in-Some c =
    let whole = c.in-Some.ensures.cases in
    c.from.ensures ∙ ap long_cipher whole.same ∙ sym (simp (eq-eqb (length c.args.key.now) 32 whole.long))

pub returns : goal.returns
unfolding cipher_under
returns c = c.from-2.ensures ∙ ap short_cipher c.copy.ensures ∙ sym (simp (ne_eqb (length c.args.key.now) 32 c.in_default.ensures.cases))
