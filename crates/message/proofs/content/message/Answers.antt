-- `message::content::message` meets its contract. Assumes nothing.
use mathlib.Core.Path.{ap}
use Rattle.framing.specs.Kinds.{kind_number}
use Rattle.framing.proofs.Rows.{sixteen_bytes}
use Rattle.message.proofs.content.message.Goals as goal

pub position_in-requires : goal.position_in-requires
position_in-requires c = sixteen_bytes (kind_number c.args.kind) _ (ap kind_number c.in-Position.is) c.requires
