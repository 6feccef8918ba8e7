-- `aes::expansion::expanded` meets its contract. Assumes nothing.
use mathlib.Core.Path.{◌≡◌, ap, ◌∙◌}
use Prim.Native.Nat.{ℕ, ◌+◌, ◌-◌, ◌*◌, ◌/◌}
use native.Mathlib.Omega.{arith}
use lib.ListN.{length, take, replicate}
use Rattle.fips197.specs.KeyExpansion.{expand}
use Rattle.aes.proofs.Expanding.{schedule_law}
use borrow.Author.Rules.{rules}
use Rattle.aes.proofs.expansion.expanded.Goals as goal

pub returns : goal.returns
returns g c =
    let nk = g.row.K / 4 in
    let key : length c.args.key ≡ g.row.K = search rules in
    let made : length c.copy.new.dst ≡ g.row.N = search rules in
    let room : length (replicate {A = ℕ} g.row.N 0) ≡ g.row.N = search rules in
    let words : length c.copy.new.dst / 4 ≡ 4 * (g.row.N / 16 - 1 + 1) = omega (arith, c.requires, made) in
    schedule_law nk (g.row.N / 16 - 1) c.args.key (replicate g.row.N 0) _ _ (omega (arith, c.requires, key)) (omega (arith, c.requires, key, room)) c.copy.ensures
    (c.expand.ensures ∙ ap (λ n. expand nk (take (4 * nk) c.copy.new.dst) (n - nk)) words)
