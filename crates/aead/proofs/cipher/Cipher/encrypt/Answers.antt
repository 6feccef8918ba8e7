-- `aead::cipher::Cipher::encrypt` meets its contract. Assumes nothing.
use mathlib.Core.Path.{sym, ap, ◌∙◌}
use Rattle.aead.specs.Cipher.{encrypted}
use Rattle.aead.proofs.cipher.Cipher.encrypt.Goals as goal

pub returns-in-Short : goal.returns-in-Short
unfolding encrypted
returns-in-Short c = c.encrypt.ensures ∙ sym (ap (λ k. encrypted k c.args.block) c.in-Short.is)

pub returns-in-Long : goal.returns-in-Long
unfolding encrypted
returns-in-Long c = c.encrypt-in-Long.ensures ∙ sym (ap (λ k. encrypted k c.args.block) c.in-Long.is)
