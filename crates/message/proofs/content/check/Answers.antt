-- `message::content::check` meets its contract. Assumes nothing.
use mathlib.Core.Path.{◌≡◌, refl, sym, ◌∙◌}
use mathlib.Core.Bool.{true}
use denote.Enum.Bare.{sameb}
use Rattle.framing.specs.declared.kind.Kind.{Kind}
use Rattle.framing.specs.declared.kind.Kind.TheVariants.{Position, Text, CheckIn}
use Rattle.framing.specs.contracts.kind.Kind.{the_type}
use Rattle.framing.specs.Kinds as kinds
use Rattle.framing.specs.Kinds.{kind_number}
use Rattle.framing.proofs.Rows.{sixteen_bytes}
use Rattle.message.proofs.content.check.Goals as goal

-- the kind that is compared with a position is one
position_is : (kind : Kind) → sameb the_type kind Position ≡ true → kind_number kind ≡ kinds.position
position_is Position e = refl
position_is Text e = cc
position_is CheckIn e = cc

pub position_in-requires : goal.position_in-requires
position_in-requires c = sixteen_bytes (kind_number c.args.kind) _ (position_is c.args.kind (sym c.eq.ensures ∙ c.if-eq.true)) c.requires
