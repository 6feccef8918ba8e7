-- `digits::decimal` meets its contract: what the digits that are left say of the number so far, they say of the word. Assumes nothing.
use mathlib.Core.Path.{sym, ◌∙◌}
use borrow.Author.Rules.{rules}
use Rattle.digits.proofs.Laws.{digit_taken, digit_refused, digits_over}
use Rattle.digits.proofs.decimal.Goals as goal

pub returns-in_err-value : goal.returns-in_err-value
returns-in_err-value c =
    let l = c.loop-b in
    let s = c.args.s.now in
    let e = sym c.longer.ensures ∙ c.in_err-value.was in
    c.from_residual.ensures ∙ sym (l.invariant.1 ∙ digit_refused l.value s l.b-index c.loop-b-test.true e)

pub loop-b-preserved : goal.loop-b-preserved
loop-b-preserved c =
    let l = c.loop-b in
    let s = c.args.s.now in
    let n = c.in_ok-value.value in
    let e = sym c.longer.ensures ∙ c.in_ok-value.was in
    (search rules, l.invariant.1 ∙ digit_taken l.value n s l.b-index c.loop-b-test.true e)

pub returns : goal.returns
returns c =
    let l = c.loop-b in
    let s = c.args.s.now in
    sym (l.invariant.1 ∙ digits_over l.value s l.b-index c.loop-b-test.false l.invariant.0)
