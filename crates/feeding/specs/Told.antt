-- What a call returned, told as document 01 has it: 0 beside what was made, and a reason's number beside nothing. Assumes nothing.
use Rattle.std.specs.Prelude.{Result, Ok, Err, replicate}
use Rattle.answer.specs.Answers.{done}
use Rattle.answer.specs.declared.Reason.{Reason}
use Rattle.answer.specs.Reasons.{number_of}
use Rattle.feeding.specs.declared.Fed.{Fed}
use Rattle.feeding.specs.declared.Finished.{Finished}
use Rattle.feeding.specs.declared.Joined.{Joined}
use Rattle.feeding.specs.Answers.{FedAnswer, FinishAnswer, JoinAnswer}
use Rattle.feeding.specs.Record.{zero_hash}

abbrev pub fed_told : Result Fed Reason → FedAnswer
fed_told (Ok made) = record { answer = done; hash = made.hash; multiplies = made.multiplies }
fed_told (Err reason) = record { answer = number_of reason; hash = zero_hash; multiplies = 0 }

abbrev pub finish_told : Result Finished Reason → FinishAnswer
finish_told (Ok made) = record { answer = done; tag = made.tag; multiplies = made.multiplies }
finish_told (Err reason) = record { answer = number_of reason; tag = replicate 16 0; multiplies = 0 }

abbrev pub join_told : Result Joined Reason → JoinAnswer
join_told (Ok made) = record { answer = done; hash = made.hash; dots = made.dots }
join_told (Err reason) = record { answer = number_of reason; hash = zero_hash; dots = 0 }
