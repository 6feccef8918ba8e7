-- `siv::seal` meets its contract. Assumes nothing.
use Prim.Native.Nat.{ℕ}
use mathlib.Core.Path.{sym, ap, ◌∙◌, subst}
use mathlib.Core.List.{List}
use lib.ListN.{length}
use Rattle.field.specs.Element.{value}
use Rattle.aead.specs.Cipher.{encrypted}
use Rattle.modes.specs.Mode.{sealed_by}
use Rattle.sealing.proofs.Done.{sealable}
use Rattle.rfc8452.specs.Counter.{mask_under}
use Rattle.rfc8452.specs.Tag.{tag_under}
use Rattle.siv_parts.specs.Derives.{Derives}
use Rattle.siv_parts.proofs.Deriving.{derived_hash, derived_cipher}
use Rattle.rfc8452.proofs.Sealing.{held_sealed}
use Rattle.siv.proofs.Returns.{seals_done}
use Rattle.siv.proofs.seal.Goals as goal

pub returns : goal.returns
returns c =
    let a = c.args in
    let key = a.key.now in
    let nonce = a.nonce.now in
    let ad = a.ad.now in
    let text = a.plaintext.now in
    let keys = c.derive-keys.result in
    let h = value keys.hash in
    let f = encrypted keys.cipher in
    let none = c.in_ok-check_seal.ensures in
    let sized = (sealable (length key) (length nonce) (length ad) (length text) (length a.out.now) (sym none)).keyed.key in
    let whole = rw c.unwrap.ensures at c.as_array.ensures.cases in
    let made = subst (λ (n : List ℕ). Derives key n keys) whole.same c.derive-keys.ensures in
    seals_done key nonce ad text a.out.now _ _ none
    (ap (λ (n : List ℕ). sealed_by (mask_under f) (tag_under h f n ad) text) made.nonce_is
    ∙ held_sealed key nonce h f (derived_hash key nonce keys made sized) (derived_cipher key nonce keys made sized) ad text)
    c.put_sealed.ensures
