-- Writing piece after piece: what stands at a place, and one piece behind another. Assumes nothing.
use Prim.Native.Nat.{ℕ, ◌+◌, ◌≤◌, ◌<◌}
use mathlib.Core.Path.{◌≡◌, refl, sym, ap, ◌∙◌, subst}
use mathlib.Core.List.{List, [], ◌∷◌, ◌++◌, append_assoc}
use native.Mathlib.Nat.{add-zero, add_assoc}
use native.Mathlib.Numerals.{add-one}
use mathlib.Core.Bool.{Bool, true, cond}
use borrow.Author.Tests.{le-leb}
use lib.ListN.{length, get_or, set, take, drop, length-append, take-append-drop}
use lib.Seq.{set_split, length-take-le, take_at, drop_at, drop-drop, take-suc}
use Rattle.octets.specs.Places.{placed, Wrote, has_room, Puts}

-- nothing is written
pub wrote_none : (out : List ℕ) (n : ℕ) → Wrote out n [] out n
wrote_none out n = record { out_is = rw (add-zero, take-append-drop); next_is = sym (add-zero n) }

-- one byte is stored
pub wrote_one : (out : List ℕ) (n b : ℕ) → n < length out → Wrote out n (b ∷ []) (set out n b) (n + 1)
wrote_one out n b h = record { out_is = rw (add-one) (set_split out n b h); next_is = refl }

-- what is written has the length of what was there, and so the next piece stands behind it
module _ (o a : List ℕ) (n : ℕ) (h : n ≤ length o) where
  head_length : length (take n o ++ a) ≡ n + length a
  head_length = length-append (take n o) a ∙ ap (λ (k : ℕ). k + length a) (length-take-le n o h)

  take_wrote : take (n + length a) (take n o ++ (a ++ drop (n + length a) o)) ≡ take n o ++ a
  take_wrote = rw (← append_assoc) (take_at (take n o ++ a) (drop (n + length a) o) (n + length a) head_length)

  drop_wrote : (k : ℕ) → drop (n + length a + k) (take n o ++ (a ++ drop (n + length a) o)) ≡ drop (n + length a + k) o
  drop_wrote k =
      sym (drop-drop k (n + length a) (take n o ++ (a ++ drop (n + length a) o)))
      ∙ ap (drop k) (rw (← append_assoc) (drop_at (take n o ++ a) (drop (n + length a) o) (n + length a) head_length))
      ∙ drop-drop k (n + length a) o

-- one piece behind another
pub then : {o a o₁ b o₂ : List ℕ} {n n₁ n₂ : ℕ} → n ≤ length o → Wrote o n a o₁ n₁ → Wrote o₁ n₁ b o₂ n₂ → Wrote o n (a ++ b) o₂ n₂
then {o} {a} {o₁} {b} {o₂} {n} {n₁} {n₂} h p q =
    let m : ℕ = n + length a in
    let e : take m o₁ ≡ take n o ++ a = ap (take m) p.out_is ∙ take_wrote o a n h in
    let f : drop (m + length b) o₁ ≡ drop (m + length b) o = ap (drop (m + length b)) p.out_is ∙ drop_wrote o a n h (length b) in
    let l : n + length (a ++ b) ≡ m + length b = ap (λ (k : ℕ). n + k) (length-append a b) ∙ sym (add_assoc n (length a) (length b)) in
    record {
      out_is =
          q.out_is
          ∙ ap (λ (k : ℕ). take k o₁ ++ (b ++ drop (k + length b) o₁)) p.next_is
          ∙ (λ i. e i ++ (b ++ f i))
          ∙ append_assoc (take n o) a (b ++ drop (m + length b) o)
          ∙ ap (λ (x : List ℕ). take n o ++ x) (sym (append_assoc a b (drop (m + length b) o)) ∙ ap (λ (k : ℕ). (a ++ b) ++ drop k o) (sym l));
      next_is = q.next_is ∙ ap (λ (k : ℕ). k + length b) p.next_is ∙ sym l;
    }

-- the same text by another name
pub wrote_as : {o a b o₁ : List ℕ} {n n₁ : ℕ} → a ≡ b → Wrote o n a o₁ n₁ → Wrote o n b o₁ n₁
wrote_as {o} {a} {b} {o₁} {n} {n₁} e p = subst (λ (t : List ℕ). Wrote o n t o₁ n₁) e p

-- the same place by another name
pub wrote_so : {o a o₁ : List ℕ} {n n₁ n₂ : ℕ} → Wrote o n a o₁ n₁ → n₂ ≡ n₁ → Wrote o n a o₁ n₂
wrote_so p e = record { out_is = p.out_is; next_is = e ∙ p.next_is }

-- one element more of a list that is written element by element
pub take_more : (s : List ℕ) (i : ℕ) → i < length s → take i s ++ (get_or s i 0 ∷ []) ≡ take (i + 1) s
take_more s i h = rw add-one (sym (take-suc s i 0 h))

-- with room for it, what is put is written; without, nothing is
pub put_wrote : {out s out' : List ℕ} {at next : ℕ} → at + length s ≤ length out → Puts out at s out' next → Wrote out at s out' next
put_wrote {out} {s} {out'} {at} {next} h p =
    let e : has_room out at s ≡ true = le-leb _ _ h in
    record { out_is = p.out_is ∙ ap (λ (b : Bool). cond b (placed out at s) out) e; next_is = p.next_is ∙ ap (λ (b : Bool). cond b (at + length s) at) e }

-- and what is written is what is put
pub wrote_put : {out s out' : List ℕ} {at next : ℕ} → at + length s ≤ length out → Wrote out at s out' next → Puts out at s out' next
wrote_put {out} {s} {out'} {at} {next} h w =
    let e : true ≡ has_room out at s = sym (le-leb _ _ h) in
    record { out_is = w.out_is ∙ ap (λ (b : Bool). cond b (placed out at s) out) e; next_is = w.next_is ∙ ap (λ (b : Bool). cond b (at + length s) at) e }
