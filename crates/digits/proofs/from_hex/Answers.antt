-- `digits::from_hex` meets its contract: i bytes of what s spells are put. Assumes nothing.
use Prim.Native.Nat.{ℕ, ◌/◌, ◌<◌}
use mathlib.Core.Path.{sym, ap, ◌∙◌}
use mathlib.Core.List.{List, []}
use native.Mathlib.Omega.{arith}
use lib.ListN.{length, get_or}
use Rattle.std.proofs.lemmas.List.{get_or-take, length-take}
use Rattle.digits.specs.Text.{spelled}
use Rattle.digits.proofs.Laws.{put_turn, length-spelled, spelled_at, pair_spells}
use Rattle.digits.proofs.from_hex.Goals as goal

pub loop-i-preserved : goal.loop-i-preserved
loop-i-preserved c =
    let l = c.loop-i in
    let a = c.args in
    let s = a.s.now in
    let n = c.min-n.result in
    let pairs = c.as_chunks.result.0.now in
    let h : l.i < n = omega (arith, length-take n pairs) in
    let k : l.i < length s / 2 = omega (arith, length-take n pairs) in
    let pair = get_or-take n pairs l.i [] h ∙ ap (λ (x : List (List ℕ)). get_or x l.i []) c.as_chunks.ensures.front in
    let e = c.byte_of.ensures ∙ ap pair_spells pair ∙ sym (spelled_at (length s / 2) s l.i k (omega arith)) in
    put_turn a.out.now (spelled s) l.out l.i _ l.invariant (omega arith) (rw length-spelled (omega arith)) e
