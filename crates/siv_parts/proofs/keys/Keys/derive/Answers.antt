-- `siv_parts::keys::Keys::derive` meets its contract. Assumes nothing.
use Rattle.std.proofs.Common.{◌≡◌, ℕ, ◌≤◌, cond, eqb, List, ◌++◌, length, refl, sym, ap, ◌∙◌, subst, ap₂, arith, length-append, length-take, take_all, eq-eqb, ne_eqb}
use Rattle.octets.specs.Numbers.{number, bytes_of}
use Rattle.field.specs.Element.{element}
use Rattle.polyval.specs.FirstBlock.{IsBlock}
use Rattle.aead.specs.declared.cipher.Cipher.{Cipher}
use Rattle.aead.specs.Cipher.{encrypted, short_cipher, long_cipher, cipher_under}
use Rattle.rfc8452.specs.Keys.{derived_by, pair_by}
use Rattle.siv_parts.specs.Derives.{Derives}
use Rattle.siv_parts.proofs.keys.Keys.derive.Goals as goal
use Rattle.siv_parts.proofs.keys.Keys.derive.Goals.{After-pair-low}

-- what block i and block j of the given key's record give
given_pair : (given : Cipher) (key nonce r : List ℕ) (i j : ℕ) → given ≡ cipher_under key → r ≡ pair_by (encrypted given) nonce i j
    → r ≡ pair_by (encrypted (cipher_under key)) nonce i j
given_pair given key nonce r i j known e = e ∙ ap (λ k. pair_by (encrypted k) nonce i j) known

-- the hash key, as an element and as its number
hash-is : (c : After-pair-low) →
    let a = c.args in
    IsBlock (pair_by (encrypted (cipher_under a.key.now)) a.nonce 0 1) c.block_of-hash.result
hash-is c =
    let a = c.args in
    let p = c.pair-authentication in
    subst (λ (s : List ℕ). IsBlock s c.block_of-hash.result) (given_pair c.under-given.result a.key.now a.nonce p.result 0 1 c.under-given.ensures p.ensures) c.block_of-hash.ensures

-- two derived halves are 16 bytes, and so a whole block
pair-whole : (f : List ℕ → List ℕ) (nonce : List ℕ) (i j : ℕ) → length (pair_by f nonce i j) ≤ 16
pair-whole f nonce i j =
    omega (arith, length-append (derived_by f nonce i) (derived_by f nonce j), length-take 8 (f (bytes_of 4 i ++ nonce)), length-take 8 (f (bytes_of 4 j ++ nonce)))

derived : (c : After-pair-low) (k : Cipher) →
    let a = c.args in
    let p = pair_by (encrypted (cipher_under a.key.now)) a.nonce in
    k ≡ cond (eqb (length a.key.now) 32) (long_cipher (p 2 3 ++ p 4 5)) (short_cipher (p 2 3))
    → Derives a.key.now a.nonce (record { hash = c.block_of-hash.result; cipher = k; nonce = a.nonce })
derived c k e =
    let a = c.args in
    let f = encrypted (cipher_under a.key.now) in
    let whole = take_all 16 (pair_by f a.nonce 0 1) (pair-whole f a.nonce 0 1) in
    record {
      hash = (hash-is c).is ∙ ap (λ (s : List ℕ). element (number s)) whole;
      whole = (hash-is c).whole ∙ ap number whole;
      cipher = e;
      nonce_is = refl;
    }

pub returns-then-key-eq32 : goal.returns-then-key-eq32
returns-then-key-eq32 c =
    let a = c.args in
    let low = given_pair c.under-given.result a.key.now a.nonce c.pair-low.result 2 3 c.under-given.ensures c.pair-low.ensures in
    let high = given_pair c.under-given.result a.key.now a.nonce c.pair-high.result 4 5 c.under-given.ensures c.pair-high.ensures in
    derived (goal.at.returns-then-key-eq32 c).After-pair-low c.from.result
    (c.from.ensures ∙ ap long_cipher (c.joined.ensures ∙ ap₂ (λ (x y : List ℕ). x ++ y) low high)
    ∙ sym (simp (eq-eqb (length a.key.now) 32 c.if-key-eq32.true)))

pub returns : goal.returns
returns c =
    let a = c.args in
    let low = given_pair c.under-given.result a.key.now a.nonce c.pair-low.result 2 3 c.under-given.ensures c.pair-low.ensures in
    derived (goal.at.returns c).After-pair-low c.from-2.result
    (c.from-2.ensures ∙ ap short_cipher low ∙ sym (simp (ne_eqb (length a.key.now) 32 c.if-key-eq32.false)))
