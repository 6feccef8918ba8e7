-- A table at one byte, and how the table of words is told from the S-box. Assumes nothing.
use mathlib.Core.Path.{◌≡◌, refl, sym, ap, ◌∙◌}
use mathlib.Core.List.{List, [], ◌∷◌, map}
use Prim.Native.Nat.{ℕ, ◌/◌, ◌%◌, ◌<◌}
use lib.ListN.{get_or}
use Rattle.fips197.specs.Sbox.{sbox, sbox_table}
use Rattle.fips197.proofs.Table.{tab_get_d, map_tab}
use Rattle.aes_tables.specs.Words.{mixed0, word_table}

pub sbox_at : (t : List ℕ) → t ≡ sbox_table → (k : ℕ) → k < 256 → get_or t k 0 ≡ sbox k
unfolding sbox_table
sbox_at t e k h = ap (λ (l : List ℕ). get_or l k 0) e ∙ tab_get_d 256 sbox k h

pub word_at : (t : List ℕ) → t ≡ word_table → (k : ℕ) → k < 256 → get_or t k 0 ≡ mixed0 (sbox k)
unfolding word_table
word_at t e k h = ap (λ (l : List ℕ). get_or l k 0) e ∙ tab_get_d 256 (λ x. mixed0 (sbox x)) k h

-- row 1 of a word: the byte itself
abbrev pub row1 : ℕ → ℕ
row1 v = v / 256 % 256

-- words whose rows 1 are the S-box, each made of its row 1, are the table
pub words_of_lem : (l : List ℕ) → map row1 l ≡ sbox_table → map (λ v. mixed0 (row1 v)) l ≡ l → l ≡ word_table
unfolding word_table sbox_table
words_of_lem l e again = sym again ∙ two l ∙ ap (map mixed0) e ∙ map_tab 256 mixed0 sbox
  where
    two : (l : List ℕ) → map (λ v. mixed0 (row1 v)) l ≡ map mixed0 (map row1 l)
    two [] = refl
    two (v ∷ l) = ap (λ (k : List ℕ). mixed0 (row1 v) ∷ k) (two l)
