-- What is promised of a descriptor and of a read, and what the promises fix. Assumes nothing.
use Prim.Native.Nat.{ℕ, ◌≤◌}
use mathlib.Core.Path.{◌≡◌, refl, sym, ◌∙◌}
use mathlib.Core.Bool.{true, false}
use mathlib.Core.List.{List}
use lib.IntN.{ℤ, pos, negsuc}
use native.Mathlib.Omega.{arith}
use lib.Dec.{leb→le}
use lib.ListN.{length}
use lib.Signed.{lt_z}
use Rattle.std.specs.Prelude.{None}
use Rattle.files.specs.Files.{Got, IsPrefixLen, Opened, Read, got}
use Rattle.logic.proofs.Tests.{no}

-- what is not below 0 is a descriptor
pub not_negative : (z : ℤ) → lt_z z (pos 0) ≡ false → Opened z
not_negative (pos n) e = record { least = record { le = tt } }
not_negative (negsuc n) e = no (cc)

-- nothing failed, so nothing is said of a failure
pub succeeded : (n : ℕ) (buf : List ℕ) → IsPrefixLen n buf → Read (record { failed = false; count = n }) buf
succeeded n buf c = record { within = c; none = λ e. no (cc) }

-- of the negative numbers -1 alone is an answer
pub below_zero : (n : ℕ) → Opened (negsuc n) → n ≡ 0
below_zero n o = let h : n ≤ 0 = leb→le n 0 o.least.le in omega arith

-- where a call answers no count, it failed and counts nothing
pub told_none : got None ≡ record { failed = true; count = 0 }
told_none = refl

-- two reads that failed count alike
pub failed_alike : (g h : Got) (x y : List ℕ) → Read g x → Read h y → g.failed ≡ true → h.failed ≡ true → g.count ≡ h.count
failed_alike g h x y p q a b = p.none a ∙ sym (q.none b)

-- and no read counts past its buffer
pub read_within : (g : Got) (buf : List ℕ) → Read g buf → g.count ≤ length buf
read_within g buf r = r.within.0
