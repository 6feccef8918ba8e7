-- The powers of a key: the power at each place, and its bound. Assumes nothing.
use mathlib.Core.Path.{◌≡◌, refl, ap}
use Prim.Native.Nat.{ℕ, zero, suc, ◌^◌, ◌<◌}
use native.Mathlib.Nat.{not-suc-le-zero, le_of_suc-le-suc}
use lib.ListN.{length}
use Rattle.gf2.specs.Polyval.{dot}
use Rattle.gf2.proofs.Dot.{dot_lt}
use Rattle.feeding.specs.Key.{power_of, powers_from, power_at}

-- the power at place j of those from p on
unfoldable pub nth : (h p j : ℕ) → ℕ
nth h p zero = p
nth h p (suc j) = nth h (dot p h) j

pub nth_next : (h p j : ℕ) → nth h p (suc j) ≡ dot (nth h p j) h
unfolding nth
nth_next h p zero = refl
nth_next h p (suc j) = nth_next h (dot p h) j

pub nth_lt : (h p j : ℕ) → p < 2 ^ 128 → nth h p j < 2 ^ 128
unfolding nth
nth_lt h p zero l = l
nth_lt h p (suc j) l = nth_lt h (dot p h) j (dot_lt p h)

pub power_at_lem : (h p n j : ℕ) → j < n → power_at (powers_from h p n) j ≡ power_of (nth h p j)
unfolding powers_from nth
power_at_lem h p zero j l = absurd (not-suc-le-zero l)
power_at_lem h p (suc n) zero l = refl
power_at_lem h p (suc n) (suc j) l = power_at_lem h (dot p h) n j (le_of_suc-le-suc l)

pub powers_length : (h p n : ℕ) → length (powers_from h p n) ≡ n
unfolding powers_from
powers_length h p zero = refl
powers_length h p (suc n) = ap suc (powers_length h (dot p h) n)
