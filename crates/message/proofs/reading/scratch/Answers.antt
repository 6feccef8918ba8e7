-- `message::reading::scratch` meets its contract: the room of the code is the longest plaintext of the table. Assumes nothing.
use mathlib.Core.Path.{refl}
use Rattle.framing.specs.Kinds.{table, max_frame_plaintext}
use Rattle.message.proofs.reading.scratch.Goals as goal

pub returns : goal.returns
unfolding max_frame_plaintext table
returns c = refl
