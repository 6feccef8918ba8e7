-- What a call returns as document 01 tells it: the number of the reason, and 0, done, where there is none. Assumes nothing.
use Rattle.std.specs.Prelude.{ℕ, Result, Ok, Err}
use Rattle.answer.specs.Answers.{done, key_length, nonce_length, not_whole_blocks, ad_too_long, text_too_long, sealed_too_short, no_room, tag_differs, not_a_frame, unknown_kind, length_for_kind, cut_short, out_of_range, bad_record, log_too_long}
use Rattle.answer.specs.declared.Reason.{Reason}
use Rattle.answer.specs.declared.Reason.TheVariants.{KeyLength, NonceLength, NotWholeBlocks, AdTooLong, TextTooLong, SealedTooShort, NoRoom, TagDiffers, NotAFrame, UnknownKind, LengthForKind, CutShort, OutOfRange, BadRecord, LogTooLong}

-- the number of a reason
abbrev pub number_of : Reason → ℕ
number_of KeyLength = key_length
number_of NonceLength = nonce_length
number_of NotWholeBlocks = not_whole_blocks
number_of AdTooLong = ad_too_long
number_of TextTooLong = text_too_long
number_of SealedTooShort = sealed_too_short
number_of NoRoom = no_room
number_of TagDiffers = tag_differs
number_of NotAFrame = not_a_frame
number_of UnknownKind = unknown_kind
number_of LengthForKind = length_for_kind
number_of CutShort = cut_short
number_of OutOfRange = out_of_range
number_of BadRecord = bad_record
number_of LogTooLong = log_too_long

-- the answer of a call that returned r
abbrev pub answer_of : {T : Type 0} → Result T Reason → ℕ
answer_of (Ok _) = done
answer_of (Err reason) = number_of reason
