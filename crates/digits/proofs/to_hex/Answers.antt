-- `digits::to_hex` meets its contract: the two digits of each of i bytes are put. Assumes nothing.
use Prim.Native.Nat.{ℕ, ◌+◌, ◌*◌, ◌/◌, ◌<◌}
use mathlib.Core.Path.{◌≡◌, sym, ap, ◌∙◌}
use native.Mathlib.Omega.{arith}
use lib.ListN.{length}
use lib.Seq.{paste}
use Rattle.std.proofs.lemmas.List.{get_or-take, length-take}
use Rattle.digits.specs.Text.{letter, spelling}
use Rattle.digits.proofs.Laws.{put_turn, length-spelling, spelling_at}
use Rattle.digits.proofs.to_hex.Goals as goal

pub loop-i-preserved : goal.loop-i-preserved
loop-i-preserved c =
    let l = c.loop-i in
    let a = c.args in
    let n = c.min-n.result in
    let s = a.s.now in
    let h : l.i < n = omega (arith, length-take n s) in
    let k : l.i < length s = omega (arith, length-take n s) in
    let b = get_or-take n s l.i 0 h in
    let both = spelling_at s l.i k in
    let m = spelling s in
    let first = put_turn a.out.now m l.out (2 * l.i) _ l.invariant (omega arith) (rw length-spelling (omega arith)) (c.hex_letter.ensures ∙ ap (λ (x : ℕ). letter (x / 16)) b ∙ sym both.0) in
    let then = put_turn a.out.now m _ (2 * l.i + 1) _ first (omega arith) (rw length-spelling (omega arith)) (c.hex_letter-in-loop-i.ensures ∙ ap letter b ∙ sym both.1) in
    let e : 2 * l.i + 1 + 1 ≡ 2 * (l.i + 1) = omega arith in
    then ∙ ap (paste a.out.now 0 m) e
