-- What `fed_told`, `finish_told` and `join_told` tell of what a call returned, and that nothing of it is lost. Assumes nothing.
use Rattle.std.proofs.Common.{◌≡◌, Result, Ok, Err, refl, sym, ap}
use Rattle.answer.specs.declared.Reason.{Reason}
use Rattle.answer.specs.Reasons.{number_of}
use Rattle.answer.proofs.Reasons.{never_done, one_reason}
use Rattle.feeding.specs.declared.Fed.{Fed}
use Rattle.feeding.specs.declared.Finished.{Finished}
use Rattle.feeding.specs.declared.Joined.{Joined}
use Rattle.feeding.specs.Told.{fed_told, finish_told, join_told}
use Rattle.feeding.proofs.Refused.{no_record, no_tag, no_join}

-- a refusal: the number of its reason, beside nothing
pub refusal_told : (reason : Reason)
    → (fed_told (Err reason) ≡ no_record (number_of reason)) × (finish_told (Err reason) ≡ no_tag (number_of reason)) × (join_told (Err reason) ≡ no_join (number_of reason))
refusal_told reason = (refl, refl, refl)

-- and else 0, beside what was made
pub made_told : (f : Fed) (t : Finished) (j : Joined)
    → (fed_told (Ok f) ≡ record { answer = 0; hash = f.hash; multiplies = f.multiplies }) × (finish_told (Ok t) ≡ record { answer = 0; tag = t.tag; multiplies = t.multiplies })
    × (join_told (Ok j) ≡ record { answer = 0; hash = j.hash; dots = j.dots })
made_told f t j = (refl, refl, refl)

-- whoever knows what is told knows what was returned
pub fed_one : (a b : Result Fed Reason) → fed_told a ≡ fed_told b → a ≡ b
fed_one (Ok a) (Ok b) e = λ i. Ok (record { hash = (e i).hash; multiplies = (e i).multiplies })
fed_one (Ok a) (Err r) e = absurd (never_done r (ap (λ t. t.answer) (sym e)))
fed_one (Err r) (Ok b) e = absurd (never_done r (ap (λ t. t.answer) e))
fed_one (Err r) (Err q) e = ap Err (one_reason r q (ap (λ t. t.answer) e))

pub finish_one : (a b : Result Finished Reason) → finish_told a ≡ finish_told b → a ≡ b
finish_one (Ok a) (Ok b) e = λ i. Ok (record { tag = (e i).tag; multiplies = (e i).multiplies })
finish_one (Ok a) (Err r) e = absurd (never_done r (ap (λ t. t.answer) (sym e)))
finish_one (Err r) (Ok b) e = absurd (never_done r (ap (λ t. t.answer) e))
finish_one (Err r) (Err q) e = ap Err (one_reason r q (ap (λ t. t.answer) e))

pub join_one : (a b : Result Joined Reason) → join_told a ≡ join_told b → a ≡ b
join_one (Ok a) (Ok b) e = λ i. Ok (record { hash = (e i).hash; dots = (e i).dots })
join_one (Ok a) (Err r) e = absurd (never_done r (ap (λ t. t.answer) (sym e)))
join_one (Err r) (Ok b) e = absurd (never_done r (ap (λ t. t.answer) e))
join_one (Err r) (Err q) e = ap Err (one_reason r q (ap (λ t. t.answer) e))
