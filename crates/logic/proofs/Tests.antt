-- Laws of tests that answer true or false. Assumes nothing.
use mathlib.Core.Path.{◌≡◌, refl, sym}
use mathlib.Core.Bool.{Bool, true, false, ◌&&◌, true≢false}

-- a test does not answer both: from that, anything. Where two facts clash, `no (cc)` closes the case
pub no {ℓ} : {A : Type ℓ} → ◌≡◌ {A = Bool} false true → A
no e = absurd (true≢false (sym e))

-- what holds of both holds of each
pub both : (a b : Bool) → a && b ≡ true → (a ≡ true) × (b ≡ true)
both true b e = (refl, e)
both false b e = no e
