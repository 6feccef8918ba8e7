-- `siv_parts::keys::joined` meets its contract. Assumes nothing.
use Rattle.std.proofs.Common.{◌≡◌, ℕ, length, replicate, rules, ◌∙◌, sym}
use Rattle.siv_parts.proofs.Deriving.{joined_parts}
use Rattle.siv_parts.proofs.keys.joined.Goals as goal

pub returns : goal.returns
returns g c =
    let a = c.args in
    let zeros : length (replicate {A = ℕ} g.row.N 0) ≡ g.row.N = search rules in
    joined_parts a.low.now a.high.now (replicate g.row.N 0) c.copy.new.dst c.put.new.out (c.requires ∙ sym zeros) c.copy.ensures c.put.ensures
