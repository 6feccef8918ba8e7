-- `protocol::words::big_endian` meets its contract: each byte stands behind those before it. Assumes nothing.
use mathlib.Core.Path.{◌∙◌}
use native.Mathlib.Omega.{arith}
use borrow.Author.Rules.{rules}
use Rattle.std.proofs.lemmas.Iterator.{YieldsList-from_slice}
use Rattle.std.proofs.lemmas.Iterator.Consumers.{fold_from_yields_List}
use Rattle.protocol.proofs.Laws.{behind, high_first_folded}
use Rattle.protocol.proofs.words.big_endian.Goals as goal

pub returns : goal.returns
returns c =
    let s = c.args.s.now in
    fold_from_yields_List _ behind 0 c.fold.result c.fold.ensures.ran (YieldsList-from_slice s (cc)) (λ a x b q k. search rules)
    ∙ high_first_folded s (λ i. omega (arith, c.type_inv.s i))
