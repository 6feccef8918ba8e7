-- `framelog::walk::turn` meets its contract: a frame lies in what is held, and where more is asked for some is left and has room.
use Rattle.std.proofs.Common.{◌≡◌, length, arith, rules}
use Rattle.framelog.proofs.Places.{some_left, has_room_lem, frame_held, in_window, holds_longest, stands}
use Rattle.framelog.proofs.walk.turn.Goals as goal

pub put_frame-requires : goal.put_frame-requires
put_frame-requires g c =
    let held = frame_held c.args.p.from c.args.p.to c.args.window.now (in_window c.args.p c.args.window.now (search rules)) _ _ _ c.in-Frame.ensures in
    stands _ _ _ _ (search rules) held.0

pub after_frame-requires : goal.after_frame-requires
after_frame-requires g c =
    let held = frame_held c.args.p.from c.args.p.to c.args.window.now (in_window c.args.p c.args.window.now (search rules)) _ _ _ c.in-Frame.ensures in
    (omega (arith, held.1), held.2)

pub refill-requires : goal.refill-requires
refill-requires g c =
    let size : length c.args.window.now ≡ 4096 = search rules in
    let room = has_room_lem c.args.p.from c.args.p.to c.args.window.now (in_window c.args.p _ size) _ (holds_longest c.args.p _ size) c.in-More.ensures in
    (some_left _ _ c.in-More.ensures, omega (arith, room, size))
