-- `frame::position::to_bytes` meets its contract. Assumes nothing.
use mir.Syntax.{w32}
use mathlib.Core.Path.{ap, ◌∙◌}
use mathlib.Core.List.{◌++◌, append-nil}
use borrow.Author.Rules.{rules}
use Rattle.octets.specs.Numbers.{bytes_of}
use Rattle.octets.proofs.Endian.{to_le}
use Rattle.framing.specs.Position.{position_bytes}
use Rattle.frame.proofs.Signs.{signed_written}
use Rattle.frame.proofs.position.to_bytes.Goals as goal

pub returns : goal.returns
unfolding position_bytes bytes_of
returns c =
    let p = c.args.p in
    let whole = rw c.unwrap.ensures at c.as_array.ensures.cases in
    let lat = c.to_le_bytes.ensures ∙ to_le w32 _ ∙ ap (bytes_of 4) (signed_written p.lat (search rules)) in
    let lon = c.to_le_bytes-2.ensures ∙ to_le w32 _ ∙ ap (bytes_of 4) (signed_written p.lon (search rules)) in
    let alt = c.to_le_bytes-3.ensures ∙ to_le w32 _ ∙ ap (bytes_of 4) (signed_written p.alt (search rules)) in
    let time = append-nil c.to_le_bytes-4.result ∙ c.to_le_bytes-4.ensures ∙ to_le w32 _ in
    whole.same ∙ c.as_flattened.ensures.value ∙ (λ i. lat i ++ (lon i ++ (alt i ++ time i)))
