-- A kind for a number, by the search of the table, meets its contract. Assumes nothing.
use mathlib.Core.Path.{sym, ◌∙◌}
use Rattle.std.proofs.lemmas.Result.{err_from_is_err_and}
use Rattle.framing.proofs.Told.{found_none, found_some, kind_found, none_found}
use Rattle.framing.proofs.kind.KindTryFromU8.try_from.Goals as goal

pub returns-in_err-row : goal.returns-in_err-row
returns-in_err-row c =
    let none = found_none c.row_of.result _ _ (sym c.ok_or.ensures.value ∙ c.in_err-row.was) in
    let p = err_from_is_err_and c.from_residual.result c.from_residual.ensures.1 in
    rw p.1 (p.2 ∙ none.1, none_found c.args.number c.row_of.result c.row_of.ensures none.0)

pub returns : goal.returns
returns c = kind_found c.args.number c.row_of.result c.row_of.ensures c.in_ok-row.row (found_some _ _ _ (sym c.ok_or.ensures.value ∙ c.in_ok-row.was))
