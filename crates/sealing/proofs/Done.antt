-- The answer 0 of sealing and opening: given exactly where every length fits, and for opening the tag too. Assumes nothing.
use Prim.Native.Nat.{ℕ, ◌+◌, ◌-◌, ◌≤◌}
use mathlib.Core.Path.{◌≡◌, refl, ap}
use mathlib.Core.Bool.{Bool, true, false, not}
use mathlib.Core.List.{◌++◌}
use mathlib.Core.Logic.{◌⊎◌, inl, inr, ⊎_elim}
use native.Mathlib.Omega.{arith}
use borrow.Author.Tests.{le-ltb, ltb-false, eqb-true, not-false}
use lib.Dec.{eqb, lit<}
use Rattle.sealing.specs.Limits.{max_ad, max_plaintext, max_sealed}
use Rattle.answer.proofs.First.{Passed, Told, none_refuses, all_passed}
use Rattle.sealing.specs.Calls.{is_no_key, common_refusals, seal_answer, open_answer}
use Rattle.sealing.proofs.Refusals.{short_key, long_key_lem, nonce_length_lem, seal_rest, open_rest}

-- what both need: a key of 16 or 32 bytes, a nonce of 12, associated data within the limit
pub record Keyed (k n a : ℕ) : Type 0 where
  pub key : (k ≡ 16) ⊎ (k ≡ 32)
  pub nonce : n ≡ 12
  pub ad : a ≤ max_ad

pub record Sealable (k n a t r : ℕ) : Type 0 where
  pub keyed : Keyed k n a
  pub text : t ≤ max_plaintext
  pub room : t + 16 ≤ r

pub record Openable (k n a s r : ℕ) : Type 0 where
  pub keyed : Keyed k n a
  pub tagged : 16 ≤ s
  pub sealed : s ≤ max_sealed
  pub room : s - 16 ≤ r

which_key : (k : ℕ) → is_no_key k ≡ false → (k ≡ 16) ⊎ (k ≡ 32)
which_key k e = by_test (eqb k 16) refl
  where
    by_test : (b : Bool) → eqb k 16 ≡ b → (k ≡ 16) ⊎ (k ≡ 32)
    by_test true h = inl (eqb-true k 16 h)
    by_test false h = inr (eqb-true k 32 (not-false (eqb k 32) (simp h at e)))

module _ (key nonce ad : ℕ) where
  keyed_passed : Keyed key nonce ad → Passed (common_refusals key nonce ad)
  unfolding Passed
  keyed_passed k = (⊎_elim (short_key key) (long_key_lem key) k.key, (nonce_length_lem nonce k.nonce, (le-ltb max_ad ad k.ad, tt)))

  pub seal_done : (text room : ℕ) → Sealable key nonce ad text room → seal_answer key nonce ad text room ≡ 0
  unfolding Passed
  seal_done text room h =
      let k = keyed_passed h.keyed in
      none_refuses (common_refusals key nonce ad ++ seal_rest text room)
      (k.0, (k.1.0, (k.1.1.0, (le-ltb max_plaintext text h.text, (le-ltb room (text + 16) h.room, tt)))))

  pub sealable : (text room : ℕ) → seal_answer key nonce ad text room ≡ 0 → Sealable key nonce ad text room
  unfolding Passed Told
  sealable text room e =
      let p = all_passed (common_refusals key nonce ad ++ seal_rest text room) (lit< tt, (lit< tt, (lit< tt, (lit< tt, (lit< tt, tt))))) e in
      record {
        keyed = record { key = which_key key p.0; nonce = eqb-true nonce 12 (not-false (eqb nonce 12) p.1.0); ad = ltb-false max_ad ad p.1.1.0 };
        text = ltb-false max_plaintext text p.1.1.1.0;
        room = ltb-false room (text + 16) p.1.1.1.1.0;
      }

  pub open_done : (sealed room : ℕ) (authentic : Bool) → Openable key nonce ad sealed room → authentic ≡ true → open_answer key nonce ad sealed room authentic ≡ 0
  unfolding Passed
  open_done sealed room authentic h t =
      let k = keyed_passed h.keyed in
      none_refuses (common_refusals key nonce ad ++ open_rest sealed room authentic)
      (k.0, (k.1.0, (k.1.1.0, (le-ltb sealed 16 h.tagged, (le-ltb max_sealed sealed h.sealed, (le-ltb room (sealed - 16) h.room, (ap not t, tt)))))))

  pub openable : (sealed room : ℕ) (authentic : Bool) → open_answer key nonce ad sealed room authentic ≡ 0 → Openable key nonce ad sealed room × (authentic ≡ true)
  unfolding Passed Told
  openable sealed room authentic e =
      let p = all_passed (common_refusals key nonce ad ++ open_rest sealed room authentic) (lit< tt, (lit< tt, (lit< tt, (lit< tt, (lit< tt, (lit< tt, (lit< tt, tt))))))) e in (
        record {
          keyed = record { key = which_key key p.0; nonce = eqb-true nonce 12 (not-false (eqb nonce 12) p.1.0); ad = ltb-false max_ad ad p.1.1.0 };
          tagged = ltb-false sealed 16 p.1.1.1.0;
          sealed = ltb-false max_sealed sealed p.1.1.1.1.0;
          room = ltb-false room (sealed - 16) p.1.1.1.1.1.0;
        },
        not-false authentic p.1.1.1.1.1.1.0,
      )

  -- a part that was sealed has a length that opening takes
  pub sealed_openable : (text room place : ℕ) → Sealable key nonce ad text room → text ≤ place → Openable key nonce ad (text + 16) place
  sealed_openable text room place h l = record { keyed = h.keyed; tagged = omega arith; sealed = omega arith; room = omega arith }

  -- and the other way round
  pub opened_sealable : (sealed room place : ℕ) → Openable key nonce ad sealed room → sealed ≤ place → Sealable key nonce ad (sealed - 16) place
  opened_sealable sealed room place h l = record { keyed = h.keyed; text = omega arith; room = omega arith }
