-- What blocks do to the element held, on each route, with the word products spent (document 01, "Feeding and joining" and "Cost"). Assumes nothing.
use Rattle.std.specs.Prelude.{ℕ, List}
use Rattle.field.specs.declared.rf.Counted.{Counted}
use Rattle.field.specs.Element.{value}
use Rattle.field.specs.Rf.{counted}
use Rattle.feeding.specs.declared.Route.{Route}
use Rattle.feeding.specs.declared.Route.TheVariants.{Wide, Narrow, Rf}
use Rattle.feeding.specs.declared.ExpandedKey.{ExpandedKey}
use Rattle.rfc8452.specs.Machine.{run}
use Rattle.feeding.specs.Key.{h_of}
use Rattle.feeding.specs.Formulas.{rf_run}

-- "on the R/F route the answer is what the formulas below give on the stored values; the other routes read H alone", and count nothing
abbrev pub absorb_on : Route → (sizes : List ℕ) → ExpandedKey → Counted → List ℕ → Counted
absorb_on Wide sizes key held xs = counted (run (value (h_of key)) (value held.element) xs) held.multiplies
absorb_on Narrow sizes key held xs = counted (run (value (h_of key)) (value held.element) xs) held.multiplies
absorb_on Rf sizes key held xs = rf_run sizes key.powers held xs
