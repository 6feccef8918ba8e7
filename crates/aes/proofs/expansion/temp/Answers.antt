-- `aes::expansion::temp` meets its contract. Assumes nothing.
use mathlib.Core.Path.{sym, ap₂, ◌∙◌}
use Rattle.fips197.specs.KeyExpansion.{sum}
use Rattle.aes.proofs.Expanding.{temp_zero, temp_sub, temp_long, temp_short}
use Rattle.aes.proofs.expansion.temp.Goals as goal
use Rattle.aes.proofs.expansion.temp.Goals.{else-nk-gt6-via-then-nk-gt6+else-i-nk-eq4, else-nk-gt6-via-else-nk-gt6}

pub returns-then-i-nk-eq0 : goal.returns-then-i-nk-eq0
returns-then-i-nk-eq0 c = let a = c.args in c.sum.ensures ∙ ap₂ sum c.sub_word.ensures c.rcon.ensures ∙ sym (temp_zero a.nk a.i a.t c.if-i-nk-eq0.true)

pub returns-then-i-nk-eq4 : goal.returns-then-i-nk-eq4
returns-then-i-nk-eq4 c = let a = c.args in c.sub_word-then-i-nk-eq4.ensures ∙ sym (temp_sub a.nk a.i a.t c.if-i-nk-eq0.false c.if-nk-gt6.true c.if-i-nk-eq4.true)

pub returns : goal.returns
returns c =
    let a = c.args in
    elim c.else-nk-gt6.branch [
      | else-nk-gt6-via-then-nk-gt6+else-i-nk-eq4 w ↦ sym (temp_long a.nk a.i a.t c.if-i-nk-eq0.false w.if-nk-gt6.true w.if-i-nk-eq4.false)
      | else-nk-gt6-via-else-nk-gt6 w ↦ sym (temp_short a.nk a.i a.t c.if-i-nk-eq0.false w.if-nk-gt6.false)
    ]
