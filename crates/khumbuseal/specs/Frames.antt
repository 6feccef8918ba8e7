-- What frames leave in a C caller's cells. Assumes nothing.
use Rattle.std.specs.Prelude.{ℕ}
use Rattle.answer.specs.Answers.{done}
use Rattle.framing.specs.Front.{Front, Whole, Stop}
use Rattle.messaging.specs.Reading.{Reading}
use Rattle.messaging.specs.Message.{values_of}
use Rattle.khumbuseal.specs.declared.frames.MessageCells.{MessageCells}

-- the answer, the kind and the bytes of what stands at a front
pub record FrontCells : Type 0 where
  pub answer : ℕ
  pub kind : ℕ
  pub taken : ℕ

-- a whole frame's kind and bytes; a reason to stop, with zeros
abbrev pub front_cells : Front → FrontCells
front_cells (Whole kind taken) = record { answer = done; kind = kind; taken = taken }
front_cells (Stop r) = record { answer = r; kind = 0; taken = 0 }

-- the number and the values of each case of a message, and zero where it has none
abbrev pub message_cells : Reading → MessageCells
message_cells m =
    record {
      answer = (values_of m).answer;
      kind = (values_of m).kind;
      lat = (values_of m).lat;
      lon = (values_of m).lon;
      alt = (values_of m).alt;
      time = (values_of m).time;
      len = (values_of m).len;
      taken = (values_of m).taken;
    }
