-- `siv::open` meets its contract. Assumes nothing.
use Prim.Native.Nat.{ℕ}
use mathlib.Core.Path.{sym, ap, ap₂, ◌∙◌, subst}
use mathlib.Core.Bool.{true}
use mathlib.Core.List.{List}
use lib.ListN.{length}
use Rattle.field.specs.Element.{value}
use Rattle.octets.specs.Strings.{same_bytes}
use Rattle.aead.specs.Cipher.{encrypted}
use Rattle.modes.specs.Mode.{body_of, tag_of}
use Rattle.sealing.proofs.Done.{openable}
use Rattle.rfc8452.specs.Counter.{mask_under}
use Rattle.rfc8452.specs.Tag.{tag_under}
use Rattle.siv_parts.specs.Derives.{Derives}
use Rattle.siv_parts.specs.Keyed.{tag_by, mask_by}
use Rattle.siv_parts.proofs.Deriving.{derived_hash, derived_cipher}
use Rattle.rfc8452.proofs.Sealing.{held_opened, held_authentic}
use Rattle.siv.proofs.Returns.{opens_judged}
use Rattle.siv.proofs.open.Goals as goal

pub returns : goal.returns
returns c =
    let a = c.args in
    let key = a.key.now in
    let nonce = a.nonce.now in
    let ad = a.ad.now in
    let s = a.sealed.now in
    let keys = c.derive-keys.result in
    let h = value keys.hash in
    let f = encrypted keys.cipher in
    let none = c.in_ok-check_open.ensures in
    let sized = (openable (length key) (length nonce) (length ad) (length s) (length a.out.now) true (sym none)).0.keyed.key in
    let whole = rw c.unwrap.ensures at c.as_array.ensures.cases in
    let made = subst (λ (n : List ℕ). Derives key n keys) whole.same c.derive-keys.ensures in
    let hash = derived_hash key nonce keys made sized in
    let cipher = derived_cipher key nonce keys made sized in
    let parts = rw c.unwrap-2.ensures at c.split_last_chunk.ensures.cases in
    let judged =
    ap₂ (λ (b t : List ℕ). same_bytes (tag_by keys ad (mask_by keys t b)) t) parts.0 parts.1
    ∙ ap (λ (n : List ℕ). same_bytes (tag_under h f n ad (mask_under f (tag_of s) (body_of s))) (tag_of s)) made.nonce_is ∙ held_authentic key nonce h f hash cipher ad s in
    let text = ap₂ (λ (b t : List ℕ). mask_by keys t b) parts.0 parts.1 ∙ held_opened key nonce h f hash cipher s in
    opens_judged key nonce ad s a.out.now none _ _ _ _ judged text c.put_opened.ensures.answer c.put_opened.ensures.memory
