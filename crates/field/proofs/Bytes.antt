-- Elements and their sixteen bytes. Assumes nothing.
use Rattle.std.proofs.Common.{◌≡◌, ℕ, ◌+◌, ◌*◌, ◌^◌, ◌<◌, List, length, reverse, sym, ap, ◌∙◌, subst, ap₂, add_comm}
use Rattle.std.proofs.lemmas.List.{reverse-append, length-reverse}
use Rattle.octets.specs.Numbers.{number, bytes_of}
use Rattle.octets.proofs.Numbers.{Bytes, number_lt, number-bytes_of, bytes_of-number, bytes_of-length, bytes_of_++, number_++}
use Rattle.field.specs.declared.field_element.FieldElement.{FieldElement}
use Rattle.field.specs.Element.{value, element}
use Rattle.field.proofs.Element.{Sized, value_lt, value_element, element_of, element_value}

-- bytes and element determine each other: what from_bytes and to_bytes promise, each undone by the other
pub bytes_element : (b : List ℕ) → length b ≡ 16 → Bytes b → bytes_of 16 (value (element (number b))) ≡ b
bytes_element b long small =
    ap (bytes_of 16) (value_element (number b) (subst (λ n. number b < 256 ^ n) long (number_lt b small))) ∙ ap (λ n. bytes_of n (number b)) (sym long) ∙ bytes_of-number b small

pub element_bytes_lem : (e : FieldElement) → Sized e → element (number (bytes_of 16 (value e))) ≡ e
element_bytes_lem e s = ap element (number-bytes_of 16 (value e) (value_lt e s)) ∙ element_value e s

-- the bytes of an element in the opposite order, word by word
pub reversed_words : (e : FieldElement) → Sized e → {l h : ℕ} → l < 2 ^ 64 → h < 2 ^ 64 → l ≡ number (reverse (bytes_of 8 e.hi)) → h ≡ number (reverse (bytes_of 8 e.lo))
    → ◌≡◌ {A = FieldElement} (record { lo = l; hi = h }) (element (number (reverse (bytes_of 16 (value e)))))
reversed_words e s {l} {h} hl hh el eh =
    let low : List ℕ = reverse (bytes_of 8 e.lo) in
    let high : List ℕ = reverse (bytes_of 8 e.hi) in
    let long : length high ≡ 8 = length-reverse (bytes_of 8 e.hi) ∙ bytes_of-length 8 e.hi in
    let whole : number (reverse (bytes_of 16 (value e))) ≡ number high + number low * 2 ^ 64 =
    ap (λ b. number (reverse b)) (bytes_of_++ 8 8 e.lo e.hi s.lo) ∙ ap number (reverse-append (bytes_of 8 e.lo) (bytes_of 8 e.hi))
    ∙ number_++ high low ∙ ap (λ n. number high + number low * 256 ^ n) long in
    element_of (number (reverse (bytes_of 16 (value e)))) hl hh (ap₂ (λ h l. h * 2 ^ 64 + l) eh el ∙ add_comm (number low * 2 ^ 64) (number high) ∙ sym whole)
