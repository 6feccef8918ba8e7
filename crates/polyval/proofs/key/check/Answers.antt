-- `polyval::key::check` meets its contract. Assumes nothing.
use Rattle.std.proofs.Common.{refl, ap, ◌∙◌}
use Rattle.field.specs.Element.{value}
use Rattle.feeding.specs.Key.{expanded_of, same_powers}
use Rattle.polyval.proofs.KeyTurns.{same_pointwise}
use Rattle.polyval.proofs.key.check.Goals as goal

pub returns : goal.returns
returns c =
    let ps = c.args.key.powers in
    c.eq.ensures ∙ same_pointwise _ (λ p q. refl) ps c.expand.result.key.powers
    ∙ ap (λ made. same_powers ps made.key.powers) (c.expand.ensures ∙ ap (λ h. expanded_of (value h)) c.h_of.ensures)
