-- `digits::is_hex` meets its contract: each byte has a value. Assumes nothing.
use Prim.Native.Nat.{◌%◌}
use mathlib.Core.Path.{sym, ap, ◌∙◌}
use mathlib.Core.Bool.{◌&&◌}
use borrow.Author.Tests.{eq-eqb, tests}
use borrow.Author.Rules.{rules}
use lib.Dec.{ltb}
use lib.ListN.{length}
use Rattle.std.proofs.lemmas.Iterator.{YieldsList-from_slice}
use Rattle.std.proofs.lemmas.Iterator.Search.{all_from_yields_List}
use Rattle.digits.specs.Text.{digit, all_hex}
use Rattle.digits.proofs.Laws.{has_value, every_digit}
use Rattle.digits.proofs.is_hex.Goals as goal

pub returns-then-s-eq0 : goal.returns-then-s-eq0
returns-then-s-eq0 c =
    let s = c.args.s.now in
    all_from_yields_List (λ b. ltb (digit b) 16) _ _ c.all.result c.all.ensures.ran (YieldsList-from_slice s (cc)) (λ x b q k. search (rules, tests, has_value))
    ∙ every_digit s ∙ sym (ap (λ t. t && all_hex s) (eq-eqb (length s % 2) 0 c.if-s-eq0.true))
