-- Records and their bytes determine each other: a record that was written is read back as it was, and bytes that were read are
-- written as they were. Assumes nothing.
use Prim.Native.Nat.{ℕ, zero, suc, ◌+◌, ◌*◌, ◌^◌, ◌≤◌, ◌<◌}
use mathlib.Core.Path.{◌≡◌, refl, sym, ap, ◌∙◌}
use mathlib.Core.List.{List, [], ◌∷◌, ◌++◌, append_assoc}
use native.Mathlib.Omega.{arith}
use lib.ListN.{length, take, drop, length-append, length-drop}
use lib.Seq.{take_all, take_at, drop_at, take-add, drop-drop, length-take-le}
use Rattle.octets.specs.Numbers.{number, bytes_of}
use Rattle.octets.proofs.Numbers.{Bytes, bytes_take, bytes_drop, bytes_of-length, number-bytes_of, bytes_of-number}
use Rattle.field.specs.declared.field_element.FieldElement.{FieldElement}
use Rattle.field.specs.Element.{value, element}
use Rattle.field.proofs.Element.{Sized}
use Rattle.field.proofs.Bytes.{element_bytes_lem, bytes_element}
use Rattle.feeding.specs.declared.Power.{Power}
use Rattle.feeding.specs.Key.{power_count}
use Rattle.feeding.specs.declared.Hash.{Hash}
use Rattle.record.specs.Bytes.{element_bytes, powers_bytes, record_bytes, key_size, record_size, element_at, powers_at, record_of}
use Rattle.record.proofs.Powers.{powers_length}

abbrev pub Fit : List Power → Type 0
Fit [] = Unit {0}
Fit (p ∷ ps) = Sized p.h × Sized p.d × Fit ps

-- what every record that code can hold is: its numbers fit their words, and its arrays have their lengths
pub record Held (h : Hash) : Type 0 where
  pub powers_fit : Fit h.key.powers
  pub powers_long : length h.key.powers ≡ power_count
  pub acc_fits : Sized h.acc
  pub pending_long : length h.pending ≡ 16
  pub count_fits : h.count < 2 ^ 64

-- what stands behind a and before c
between : (a b c : List ℕ) (i n : ℕ) → length a ≡ i → length b ≡ n → take n (drop i (a ++ (b ++ c))) ≡ b
between a b c i n p q = ap (take n) (drop_at a (b ++ c) i p) ∙ take_at b c n q

element_back : (a c : List ℕ) (e : FieldElement) (i : ℕ) → Sized e → length a ≡ i → element_at i (a ++ (element_bytes e ++ c)) ≡ e
element_back a c e i s p =
    ap (λ (b : List ℕ). element (number b)) (between a (element_bytes e) c i 16 p (bytes_of-length 16 (value e))) ∙ element_bytes_lem e s

longer : (a : List ℕ) (e : FieldElement) (i : ℕ) → length a ≡ i → length (a ++ element_bytes e) ≡ i + 16
longer a e i p = length-append a (element_bytes e) ∙ (λ j. p j + bytes_of-length 16 (value e) j)

powers_back : (ps : List Power) (a c : List ℕ) (i : ℕ) → Fit ps → length a ≡ i → powers_at (length ps) i (a ++ (powers_bytes ps ++ c)) ≡ ps
unfolding powers_bytes powers_at
powers_back [] a c i fit p = refl
powers_back (q ∷ ps) a c i fit p =
    let hs = element_bytes q.h in
    let ds = element_bytes q.d in
    let rest = powers_bytes ps ++ c in
    let whole = a ++ ((hs ++ (ds ++ powers_bytes ps)) ++ c) in
    let one : whole ≡ a ++ (hs ++ (ds ++ rest)) =
    ap (λ (l : List ℕ). a ++ l) (append_assoc hs (ds ++ powers_bytes ps) c ∙ ap (λ (l : List ℕ). hs ++ l) (append_assoc ds (powers_bytes ps) c)) in
    let two : whole ≡ (a ++ hs) ++ (ds ++ rest) = one ∙ sym (append_assoc a hs (ds ++ rest)) in
    let three : whole ≡ ((a ++ hs) ++ ds) ++ rest = two ∙ sym (append_assoc (a ++ hs) ds rest) in
    let long = longer (a ++ hs) q.d (i + 16) (longer a q.h i p) in
    let h-is = ap (element_at i) one ∙ element_back a (ds ++ rest) q.h i fit.0 p in
    let d-is = ap (element_at (i + 16)) two ∙ element_back (a ++ hs) rest q.d (i + 16) fit.1 (longer a q.h i p) in
    let rest-is = ap (powers_at (length ps) (i + 32)) three ∙ powers_back ps ((a ++ hs) ++ ds) c (i + 32) fit.2 (long ∙ omega arith) in
    λ j. record { h = h-is j; d = d-is j } ∷ rest-is j

pub read_back_lem : (h : Hash) → Held h → record_of (record_bytes h) ≡ h
unfolding record_bytes record_of
read_back_lem h held =
    let ps = powers_bytes h.key.powers in
    let acc = element_bytes h.acc in
    let count = bytes_of 8 h.count in
    let rest = h.pending ++ count in
    let whole = ps ++ (acc ++ rest) in
    let one : whole ≡ (ps ++ acc) ++ rest = sym (append_assoc ps acc rest) in
    let two : whole ≡ ((ps ++ acc) ++ h.pending) ++ count = one ∙ sym (append_assoc (ps ++ acc) h.pending count) in
    let key_long : length ps ≡ key_size = powers_length h.key.powers ∙ ap (λ (n : ℕ). n * 32) held.powers_long in
    let acc-long = longer ps h.acc key_size key_long in
    let pending_long : length ((ps ++ acc) ++ h.pending) ≡ key_size + 32 =
    length-append (ps ++ acc) h.pending ∙ (λ j. acc-long j + held.pending_long j) in
    let powers-are = ap (λ (n : ℕ). powers_at n 0 whole) (sym held.powers_long) ∙ powers_back h.key.powers [] (acc ++ rest) 0 held.powers_fit refl in
    let acc-is = element_back ps rest h.acc key_size held.acc_fits key_long in
    let pending_is = ap (λ (b : List ℕ). take 16 (drop (key_size + 16) b)) one ∙ between (ps ++ acc) h.pending count (key_size + 16) 16 acc-long held.pending_long in
    let count_is =
    ap (λ (b : List ℕ). number (take 8 (drop (key_size + 32) b))) two
    ∙ ap (λ (b : List ℕ). number (take 8 b)) (drop_at ((ps ++ acc) ++ h.pending) count (key_size + 32) pending_long)
    ∙ ap number (take_all 8 count (omega (arith, bytes_of-length 8 h.count)))
    ∙ number-bytes_of 8 h.count held.count_fits in
    λ j. record { key = record { powers = powers-are j }; acc = acc-is j; pending = pending_is j; count = count_is j }

-- and the other way: two parts side by side are one
beside : (m n i : ℕ) (b : List ℕ) → take m (drop i b) ++ take n (drop (i + m) b) ≡ take (m + n) (drop i b)
beside m n i b = sym (take-add m n (drop i b) ∙ ap (λ (l : List ℕ). take m (drop i b) ++ take n l) (drop-drop m i b))

part_long : (n i : ℕ) (b : List ℕ) → i + n ≤ length b → length (take n (drop i b)) ≡ n
part_long n i b h = length-take-le n (drop i b) (rw length-drop (omega arith))

element_written : (i : ℕ) (b : List ℕ) → Bytes b → i + 16 ≤ length b → element_bytes (element_at i b) ≡ take 16 (drop i b)
element_written i b bytes h = bytes_element (take 16 (drop i b)) (part_long 16 i b h) (bytes_take 16 (drop i b) (bytes_drop i b bytes))

powers_written : (n i : ℕ) (b : List ℕ) → Bytes b → i + n * 32 ≤ length b → powers_bytes (powers_at n i b) ≡ take (n * 32) (drop i b)
unfolding powers_bytes powers_at
powers_written zero i b bytes h = refl
powers_written (suc n) i b bytes h =
    let h-is = element_written i b bytes (omega arith) in
    let d-is = element_written (i + 16) b bytes (omega arith) in
    let rest-is = powers_written n (i + 32) b bytes (omega arith) in
    let next : i + 32 ≡ i + 16 + 16 = omega arith in
    let all : 16 + (16 + n * 32) ≡ suc n * 32 = omega arith in
    (λ j. h-is j ++ (d-is j ++ rest-is j))
    ∙ ap (λ (k : ℕ). take 16 (drop i b) ++ (take 16 (drop (i + 16) b) ++ take (n * 32) (drop k b))) next
    ∙ ap (λ (l : List ℕ). take 16 (drop i b) ++ l) (beside 16 (n * 32) (i + 16) b)
    ∙ beside 16 (16 + n * 32) i b
    ∙ ap (λ (k : ℕ). take k (drop i b)) all

pub written_back : (b : List ℕ) → Bytes b → length b ≡ record_size → record_bytes (record_of b) ≡ b
unfolding record_bytes record_of
written_back b bytes l =
    let powers-are = powers_written power_count 0 b bytes (omega arith) in
    let acc-is = element_written key_size b bytes (omega arith) in
    let last = take 8 (drop (key_size + 32) b) in
    let count_is : bytes_of 8 (number last) ≡ last =
    ap (λ (n : ℕ). bytes_of n (number last)) (sym (part_long 8 (key_size + 32) b (omega arith))) ∙ bytes_of-number last (bytes_take 8 (drop (key_size + 32) b) (bytes_drop (key_size + 32) b bytes)) in
    (λ j. powers-are j ++ (acc-is j ++ (take 16 (drop (key_size + 16) b) ++ count_is j)))
    ∙ ap (λ (x : List ℕ). take key_size b ++ (take 16 (drop key_size b) ++ x)) (beside 16 8 (key_size + 16) b)
    ∙ ap (λ (x : List ℕ). take key_size b ++ x) (beside 16 24 key_size b)
    ∙ beside key_size 40 0 b
    ∙ take_all record_size b (omega arith)
