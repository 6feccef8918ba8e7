-- `aes::expansion::Schedule240FromArrayU832::from` meets its contract: it is `expanded` at its two lengths. Assumes nothing.
use Rattle.aes.proofs.expansion.Schedule240FromArrayU832.from.Goals as goal

pub returns : goal.returns
returns c = c.expanded.ensures
