-- `framelog::lines::frame_line` meets its contract: a text lies in the room that the reading had for it.
use Rattle.std.proofs.Common.{◌≡◌, sym, arith, rules}
use Rattle.std.specs.Prelude.{Ok}
use lib.Seq.{length-take-le}
use Rattle.messaging.specs.declared.Message.TheVariants.{Text}
use Rattle.framelog.proofs.Texts.{text_in_room}
use Rattle.framelog.proofs.lines.frame_line.Goals as goal

pub slice_bounds-plain-end : goal.slice_bounds-plain-end
slice_bounds-plain-end c =
    let is : c.read-read.result ≡ Ok (Text c.in-Ok-Text.len c.in-Ok-Text.field-0-1) = search rules in
    omega (arith, c.read-read.auto.out, text_in_room _ _ _ _ _ _ c.read-read.ensures.answer is)

pub slice_bounds-line-end-in-Ok-Text : goal.slice_bounds-line-end-in-Ok-Text
slice_bounds-line-end-in-Ok-Text c =
    let is : c.read-read.result ≡ Ok (Text c.in-Ok-Text.len c.in-Ok-Text.field-0-1) = search rules in
    sym (length-take-le _ _ (omega (arith, c.read-read.auto.out, text_in_room _ _ _ _ _ _ c.read-read.ensures.answer is)))
