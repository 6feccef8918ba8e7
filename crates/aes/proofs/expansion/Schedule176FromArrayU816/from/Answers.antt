-- `aes::expansion::Schedule176FromArrayU816::from` meets its contract: it is `expanded` at its two lengths. Assumes nothing.
use Rattle.aes.proofs.expansion.Schedule176FromArrayU816.from.Goals as goal

pub returns : goal.returns
returns c = c.expanded.ensures
