-- `ghash::parts::Ghash::finish` meets its contract. Assumes nothing.
use mathlib.Core.Path.{ap, ◌∙◌}
use Rattle.octets.specs.Numbers.{bytes_of}
use Rattle.field.specs.Element.{value}
use Rattle.rfc8452.proofs.Reversed.{bytes_of-reversed}
use Rattle.ghash.proofs.Fed.{reverse_value}
use Rattle.ghash.proofs.parts.Ghash.finish.Goals as goal

pub returns : goal.returns
returns c =
    let acc = c.args.self.acc in
    c.to_bytes.ensures ∙ ap (bytes_of 16) (reverse_value acc c.reverse.ensures) ∙ bytes_of-reversed (value acc)
