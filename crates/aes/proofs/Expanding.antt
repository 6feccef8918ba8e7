-- Laws of the key expansion: the cases of `temp`, a turn of the loop. Assumes nothing.
use mathlib.Core.Path.{◌≡◌, sym, ap, ap₂, ◌∙◌, subst⁻¹}
use mathlib.Core.List.{List, [], ◌∷◌, ◌++◌, append_assoc}
use Prim.Native.Nat.{ℕ, suc, ◌+◌, ◌-◌, ◌*◌, ◌/◌, ◌%◌, ◌≤◌, ◌<◌}
use native.Mathlib.Omega.{arith}
use lib.ListN.{length, take, drop, length-append}
use lib.Seq.{take_at, length-take-le, get_or-take}
use borrow.Author.Tests.{eq-eqb, ne_eqb, lt-ltb, le-ltb}
use Rattle.octets.specs.Xor.{◌⊕◌}
use Rattle.octets.specs.Places.{placed, Puts}
use Rattle.octets.specs.Strings.{copied}
use Rattle.octets.proofs.Copies.{copied_fits}
use Rattle.octets.proofs.Places.{put_wrote}
use Rattle.fips197.specs.Field.{gmul}
use Rattle.fips197.proofs.Field.{gmul_lt, double_law}
use Rattle.fips197.specs.KeyExpansion.{sum, word, rot_word, sub_word, rcon, power, temp, next_word, expand, key_expansion}

-- a turn of the powers of x, and their end
module _ (x k : ℕ) (h : x < 256) (e : x ≡ power (k - 1)) where
  pub power_lt : (x * 2 % 256) ⊕ (x / 128 * 27) < 256
  power_lt = subst⁻¹ (λ (n : ℕ). n < 256) (double_law x h) (gmul_lt 2 x)

  pub power_turn : 1 ≤ k → (x * 2 % 256) ⊕ (x / 128 * 27) ≡ power (k + 1 - 1)
  unfolding power
  power_turn l = let n : k + 1 - 1 ≡ suc (k - 1) = omega arith in double_law x h ∙ ap (gmul 2) e ∙ sym (ap power n)

-- the cases of `temp`
module _ (nk i : ℕ) (t : List ℕ) where
  pub temp_zero : i % nk ≡ 0 → temp nk i t ≡ sum (sub_word (rot_word t)) (rcon (i / nk))
  unfolding temp
  temp_zero e = simp (eq-eqb (i % nk) 0 e)

  pub temp_sub : (i % nk ≡ 0 → ⊥) → 6 < nk → i % nk ≡ 4 → temp nk i t ≡ sub_word t
  unfolding temp
  temp_sub e h f = simp (ne_eqb (i % nk) 0 e, lt-ltb 6 nk h, eq-eqb (i % nk) 4 f)

  pub temp_long : (i % nk ≡ 0 → ⊥) → 6 < nk → (i % nk ≡ 4 → ⊥) → temp nk i t ≡ t
  unfolding temp
  temp_long e h f = simp (ne_eqb (i % nk) 0 e, lt-ltb 6 nk h, ne_eqb (i % nk) 4 f)

  pub temp_short : (i % nk ≡ 0 → ⊥) → nk ≤ 6 → temp nk i t ≡ t
  unfolding temp
  temp_short e h = simp (ne_eqb (i % nk) 0 e, le-ltb 6 nk h)

word_take : (w : List ℕ) (i k : ℕ) → k < i → word (take (4 * i) w) k ≡ word w k
word_take w i k h = λ j.
    get_or-take (4 * i) w (4 * k) 0 (omega arith) j ∷ get_or-take (4 * i) w (4 * k + 1) 0 (omega arith) j
    ∷ get_or-take (4 * i) w (4 * k + 2) 0 (omega arith) j ∷ get_or-take (4 * i) w (4 * k + 3) 0 (omega arith) j ∷ []

-- a turn of the expansion, and its end
pub expand_turn : (nk : ℕ) (key w w' next : List ℕ) (i at : ℕ) → 0 < nk → nk ≤ i → 4 * i + 4 ≤ length w → take (4 * i) w ≡ expand nk key (i - nk)
    → next ≡ sum (word w (i - nk)) (temp nk i (word w (i - 1))) → Puts w (4 * i) next w' at
    → take (4 * (i + 1)) w' ≡ expand nk key (i + 1 - nk)
unfolding expand sum
expand_turn nk key w w' next i at h hk hl e en put =
    let t : List ℕ = take (4 * i) w in
    let n : nk + (i - nk) ≡ i = omega arith in
    let n' : i + 1 - nk ≡ suc (i - nk) = omega arith in
    let four : length next ≡ 4 = ap length en in
    let l : length (t ++ next) ≡ 4 * (i + 1) = length-append t next ∙ omega (arith, length-take-le (4 * i) w (omega arith)) in
    let ew : w' ≡ placed w (4 * i) next = (put_wrote (omega arith) put).out_is in
    let x : next ≡ next_word nk t i = en ∙ ap₂ (λ (a b : List ℕ). sum a (temp nk i b)) (sym (word_take w i (i - nk) (omega arith))) (sym (word_take w i (i - 1) (omega arith))) in
    ap (take (4 * (i + 1))) (ew ∙ sym (append_assoc t next (drop (4 * i + length next) w)))
    ∙ take_at (t ++ next) (drop (4 * i + length next) w) (4 * (i + 1)) l ∙ ap (λ (a : List ℕ). t ++ a) x
    ∙ ap₂ (λ (a : List ℕ) (k : ℕ). a ++ next_word nk a k) e (sym n) ∙ sym (ap (expand nk key) n')

pub expand_start : (nk : ℕ) (key : List ℕ) → key ≡ expand nk key (nk - nk)
unfolding expand
expand_start nk key = let n : nk - nk ≡ 0 = omega arith in sym (ap (expand nk key) n)

-- the key in front of a schedule's bytes d, and then its expansion
pub schedule_law : (nk nr : ℕ) (key d w w' : List ℕ) → length key ≡ 4 * nk → length key ≤ length d → w ≡ copied key d
    → w' ≡ expand nk (take (4 * nk) w) (4 * (nr + 1) - nk) → w' ≡ key_expansion nk nr key
unfolding key_expansion
schedule_law nk nr key d w w' l room e ew =
    ew ∙ ap (λ (k : List ℕ). expand nk k (4 * (nr + 1) - nk)) (ap (take (4 * nk)) (e ∙ copied_fits key d room) ∙ take_at key (drop (length key) d) (4 * nk) l)
