-- `framing::kind::row_of` meets its contract. Assumes nothing.
use Rattle.std.proofs.Common.{rules, tests}
use mathlib.Core.Path.{ap, ◌∙◌}
use lib.Dec.{eqb}
use Rattle.std.proofs.lemmas.Iterator.{YieldsList-from_slice}
use Rattle.std.proofs.lemmas.Iterator.Search.{find_from_yields_List}
use Rattle.std.specs.Prelude.{option_map}
use Rattle.framing.specs.declared.kind.TheConstants.{TABLE}
use Rattle.framing.specs.declared.kind.Row.{Row}
use Rattle.framing.specs.Kinds.{kind_number, row_told, table, row_of}
use Rattle.framing.proofs.Told.{told_search}
use Rattle.framing.proofs.kind.row_of.Goals as goal

pub returns : goal.returns
unfolding row_of table
returns c =
    let n = c.args.number in
    let f = find_from_yields_List (λ (r : Row). eqb (kind_number r.kind) n) _ _ c.find.result c.find.ensures.ran (YieldsList-from_slice {s = c.iter.result} TABLE (search rules)) (λ x b q k. search (rules, tests)) in
    ap (option_map row_told) (c.copied.ensures ∙ f) ∙ told_search n TABLE
