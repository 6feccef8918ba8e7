-- `message::reading::deliver` meets its contract. Assumes nothing.
use mathlib.Core.Path.{ap, ◌∙◌}
use Rattle.octets.proofs.Copies.{copied_fits}
use Rattle.sealing.specs.Calls.{written}
use Rattle.message.proofs.reading.deliver.Goals as goal

pub returns-clause-memory : goal.returns-clause-memory
returns-clause-memory c =
    let a = c.args in
    c.copy.ensures ∙ copied_fits a.text.now a.out.now c.requires.1 ∙ ap (λ n. written n a.text.now a.out.now) c.in_ok-check.ensures
