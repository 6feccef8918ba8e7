-- Printable pieces in a row, and a line that ends in its newline. Assumes nothing.
use Prim.Native.Nat.{ℕ, ◌≤◌}
use native.Mathlib.Omega.{arith}
use mathlib.Core.Path.{◌≡◌, refl, sym, ap, ◌∙◌}
use mathlib.Core.List.{List, [], ◌∷◌, ◌++◌, append_assoc}
use mathlib.Core.Bool.{Bool, true, false, cond}
use borrow.Author.Tests.{leb-true}
use lib.Dec.{leb}
use lib.ListN.{length, get_or, drop, length-append}
use Rattle.reporting.specs.Ascii.{ascii}
use Rattle.reporting.specs.Printable.{Each, Printable, OneLine}
use Rattle.logic.proofs.Tests.{no}

each_joined : (s t : List ℕ) → Each s → Each t → Each (s ++ t)
unfolding Each
each_joined [] t p q = q
each_joined (b ∷ s) t (p, ps) q = (p, each_joined s t ps q)

pub joined : (s t : List ℕ) → Printable s → Printable t → Printable (s ++ t)
joined s t p q = record { each = each_joined s t p.each q.each }

pub none : Printable []
unfolding Each
none = record { each = tt }

pub one : (b : ℕ) → 0x20 ≤ b → b ≤ 0x7E → Printable (b ∷ [])
unfolding Each
one b l h = record { each = ((l, h), tt) }

-- a test that computes, for the words of the lines
unfoldable pub printable : List ℕ → Bool
printable [] = true
printable (b ∷ s) = cond (leb 0x20 b) (cond (leb b 0x7E) (printable s) false) false

-- a word of the page, by the test
pub word : (s : List ℕ) → printable s ≡ true → Printable s
unfolding printable
word [] e = none
word (b ∷ s) e = by_tests (leb 0x20 b) (leb b 0x7E) refl refl (word s) e
  where
    by_tests : (l m : Bool) → leb 0x20 b ≡ l → leb b 0x7E ≡ m → (printable s ≡ true → Printable s) → cond l (cond m (printable s) false) false ≡ true → Printable (b ∷ s)
    by_tests true true p q rest h = joined (b ∷ []) s (one b (leb-true 0x20 b p) (leb-true b 0x7E q)) (rest h)
    by_tests true false p q rest h = no h
    by_tests false m p q rest h = no h

-- a word of the page before what is printable
pub after : (s t : List ℕ) → printable s ≡ true → Printable t → Printable (s ++ t)
after s t e = joined s t (word s e)

-- pieces in a row, the last of them the newline
pub ending : (s t : List ℕ) → Printable s → OneLine t → OneLine (s ++ t)
ending s t p o = record { body = s ++ o.body; is = ap (λ (x : List ℕ). s ++ x) o.is ∙ sym (append_assoc s o.body (ascii "\n")); printable = joined s o.body p o.printable }

pub newline : OneLine (ascii "\n")
newline = record { body = []; is = refl; printable = none }

-- what it means of a byte: none below 0x20 and none above 0x7E
pub each_printable : (b : ℕ) (s : List ℕ) → Printable (b ∷ s) → ((0x20 ≤ b) × (b ≤ 0x7E)) × Printable s
unfolding Each
each_printable b s p = (p.each.0, record { each = p.each.1 })

-- a line is one: nothing stands behind a newline in it
pub one_newline : (s t : List ℕ) → OneLine (s ++ (0x0A ∷ t)) → t ≡ []
one_newline s t o = last s o.body o.printable.each o.is
  where
    last : (s body : List ℕ) → Each body → s ++ (0x0A ∷ t) ≡ body ++ (0x0A ∷ []) → t ≡ []
    last [] [] p e = ap (drop 1) e
    last [] (b ∷ body) p e = let z : 0x0A ≡ b = ap (λ (x : List ℕ). get_or x 0 0) e in absurd (omega (arith, (each_printable b body (record { each = p })).0))
    last (a ∷ s) [] p e =
        let z : length (s ++ (0x0A ∷ t)) ≡ 0 = ap (λ (x : List ℕ). length (drop 1 x)) e in
        let q = length-append s (0x0A ∷ t) in
        absurd (omega arith)
    last (a ∷ s) (b ∷ body) p e = last s body (each_printable b body (record { each = p })).1.each (ap (drop 1) e)
