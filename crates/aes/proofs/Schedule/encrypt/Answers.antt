-- `aes::Schedule::encrypt` meets its contract. Assumes nothing.
use Rattle.std.proofs.Common.{◌≡◌, ◌-◌, ◌/◌, length, drop, refl, ap, ◌∙◌, arith, rules, length-take, length-drop}
use Rattle.fips197.specs.Cipher.{rounds}
use Rattle.aes.specs.State.{state_of}
use Rattle.aes.proofs.Words.{round_key, inner_key, round_turn, last_round}
use Rattle.aes.proofs.Schedule.encrypt.Goals as goal

pub loop-key-init : goal.loop-key-init
unfolding rounds
loop-key-init g c = refl

pub loop-key-preserved : goal.loop-key-preserved
loop-key-preserved g c =
    let l = c.loop-key in
    let w = c.args.self.now.bytes in
    let keys = c.as_chunks.result.0.now in
    let m = g.row.N / 16 - 1 - 1 in
    let inside = c.loop-key-test.true in
    let long = length-take m (drop 1 keys) in
    let few = length-drop 1 keys in
    let all = c.as_chunks.ensures.front_len in
    round_turn w (state_of c.add_round_key-s.result) (state_of l.s) _ _ _ l.key-index
    (inner_key (length w / 16) w keys c.as_chunks.ensures.front _ m l.key-index (omega (arith, inside, long)) (omega (arith, inside, long, few, all)))
    l.invariant c.columns.ensures c.add_round_key-s-in-loop-key.ensures

pub returns : goal.returns
returns g c =
    let l = c.loop-key in
    let w = c.args.self.now.bytes in
    let keys = c.as_chunks.result.0.now in
    let size : length w ≡ g.row.N = search rules in
    let nr = g.row.N / 16 - 1 in
    let has = c.args.self.now.has_a_round in
    let long = length-take (nr - 1) (drop 1 keys) in
    let few = length-drop 1 keys in
    let all = c.as_chunks.ensures.front_len in
    let done : l.key-index ≡ nr - 1 = omega (arith, c.loop-key-test.false, l.auto.key-index-end, long, few, all, size) in
    let front = c.as_chunks.ensures.front in
    c.to_block.ensures
    ∙ last_round w c.args.block _ _ (state_of l.s) _ _ _ _ nr
    (round_key (length w / 16) w keys front _ 0 (omega (arith, has, size)))
    (round_key (length w / 16) w keys front _ nr (omega (arith, has, size)))
    c.load.ensures c.add_round_key-s.ensures (l.invariant ∙ ap (rounds w (state_of c.add_round_key-s.result)) done) c.last_columns.ensures c.add_round_key.ensures
