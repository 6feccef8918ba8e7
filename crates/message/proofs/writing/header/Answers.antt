-- `message::writing::header` meets its contract. Assumes nothing.
use Prim.Native.Nat.{ℕ}
use mathlib.Core.Path.{◌≡◌, ap, ◌∙◌, refl}
use mathlib.Core.List.{List, [], ◌∷◌}
use lib.ListN.{get_or}
use mir.Syntax.{w16}
use Rattle.octets.specs.Numbers.{bytes_of}
use Rattle.octets.proofs.Endian.{to_le}
use Rattle.framing.specs.Front.{mark}
use Rattle.messaging.specs.Parts.{header}
use Rattle.message.proofs.writing.header.Goals as goal

both_bytes : (kind n : ℕ) (b : List ℕ) → b ≡ bytes_of 2 n → mark ∷ kind ∷ get_or b 0 0 ∷ get_or b 1 0 ∷ [] ≡ header kind n
unfolding bytes_of
both_bytes kind n b e = ap (λ (l : List ℕ). mark ∷ kind ∷ get_or l 0 0 ∷ get_or l 1 0 ∷ []) e ∙ refl

pub returns : goal.returns
returns c = both_bytes _ _ _ (c.to_le_bytes.ensures ∙ to_le w16 _)
