-- What stands at the front of a byte string, by the tests in order; and what a whole frame is. Assumes nothing.
use Prim.Native.Nat.{ℕ, ◌≤◌, ◌<◌}
use mathlib.Core.Path.{◌≡◌, refl, sym, ap}
use mathlib.Core.List.{List}
use mathlib.Core.Bool.{Bool, true, false, cond}
use native.Mathlib.Omega.{arith}
use borrow.Author.Tests.{lt-ltb, le-ltb, eq-eqb, ne_eqb, eqb-false}
use lib.Dec.{eqb}
use lib.ListN.{length, get_or}
use Rattle.answer.specs.Answers.{done, not_a_frame, unknown_kind, length_for_kind, cut_short}
use Rattle.answer.proofs.First.{Between, between}
use Rattle.framing.specs.Kinds.{is_known, is_allowed}
use Rattle.framing.specs.Front.{Whole, Stop, mark, kind_of, sealed_len, taken_of, checks, stop_of, front_of}

-- a reason is what stands at the front
stopped : (s : List ℕ) (r : ℕ) → stop_of s ≡ r → 0 < r → Stop r ≡ front_of s
unfolding front_of
stopped s r e h = sym (rw (ne_eqb (stop_of s) 0 (λ z. omega arith)) (ap Stop e))

-- the tests, each with those before it passed
module _ (s : List ℕ) where
  pub no_mark : length s < 1 → Stop cut_short ≡ front_of s
  unfolding checks
  no_mark h = stopped s cut_short (simp (lt-ltb _ _ h)) (omega arith)

  module _ (h1 : 1 ≤ length s) where
    pub wrong_mark : (get_or s 0 0 ≡ mark → ⊥) → Stop not_a_frame ≡ front_of s
    unfolding checks
    wrong_mark h = stopped s not_a_frame (simp (le-ltb _ _ h1, ne_eqb _ _ h)) (omega arith)

    module _ (m : get_or s 0 0 ≡ mark) where
      pub no_kind : length s < 2 → Stop cut_short ≡ front_of s
      unfolding checks
      no_kind h = stopped s cut_short (simp (le-ltb _ _ h1, eq-eqb _ _ m, lt-ltb _ _ h)) (omega arith)

      module _ (h2 : 2 ≤ length s) where
        pub wrong_kind : is_known (kind_of s) ≡ false → Stop unknown_kind ≡ front_of s
        unfolding checks
        wrong_kind h = stopped s unknown_kind (simp (le-ltb _ _ h1, eq-eqb _ _ m, le-ltb _ _ h2) (rw h)) (omega arith)

        module _ (k : is_known (kind_of s) ≡ true) where
          pub no_length : length s < 4 → Stop cut_short ≡ front_of s
          unfolding checks
          no_length h = stopped s cut_short (simp (le-ltb _ _ h1, eq-eqb _ _ m, le-ltb _ _ h2, lt-ltb _ _ h) (rw k)) (omega arith)

          module _ (h4 : 4 ≤ length s) where
            pub wrong_length : is_allowed (kind_of s) (sealed_len s) ≡ false → Stop length_for_kind ≡ front_of s
            unfolding checks
            wrong_length h = stopped s length_for_kind (simp (le-ltb _ _ h1, eq-eqb _ _ m, le-ltb _ _ h2, le-ltb _ _ h4) (rw (k, h))) (omega arith)

            module _ (l : is_allowed (kind_of s) (sealed_len s) ≡ true) where
              pub no_end : length s < taken_of s → Stop cut_short ≡ front_of s
              unfolding checks
              no_end h = stopped s cut_short (simp (le-ltb _ _ h1, eq-eqb _ _ m, le-ltb _ _ h2, le-ltb _ _ h4, lt-ltb _ _ h) (rw (k, l))) (omega arith)

              pub whole : taken_of s ≤ length s → Whole (kind_of s) (taken_of s) ≡ front_of s
              unfolding checks front_of
              whole h = simp (le-ltb _ _ h1, eq-eqb _ _ m, le-ltb _ _ h2, le-ltb _ _ h4, le-ltb _ _ h) (rw (k, l))

told : (n k t r : ℕ) → cond (eqb n done) (Whole k t) (Stop n) ≡ Stop r → (n ≡ r) × (n ≡ 0 → ⊥)
told n k t r e = by (eqb n done) refl e
  where
    by : (b : Bool) → eqb n done ≡ b → cond b (Whole k t) (Stop n) ≡ Stop r → (n ≡ r) × (n ≡ 0 → ⊥)
    by true q p = absurd (let z : ◌≡◌ {A = ℕ} 0 1 = cc in omega arith)
    by false q p = (cc, eqb-false n 0 q)

-- where no frame stands, the reason is what the checks say, and is 9 to 12
pub reason : (s : List ℕ) (r : ℕ) → front_of s ≡ Stop r → (stop_of s ≡ r) × (not_a_frame ≤ r) × (r ≤ cut_short)
unfolding front_of checks Between
reason s r e =
    let t = told (stop_of s) (kind_of s) (taken_of s) r e in
    let b = between not_a_frame cut_short (checks s) (omega arith) t.1 in
    (t.0, omega arith, omega arith)
