-- The answers of document 01, "Answers": 0 means done, and each other number says why a call refused. Assumes nothing.
use Rattle.std.specs.Prelude.{ℕ}

abbrev pub done : ℕ
done = 0

-- hash key not 16 bytes, or sealing key not 16 or 32
abbrev pub key_length : ℕ
key_length = 1

-- nonce not 12 bytes
abbrev pub nonce_length : ℕ
nonce_length = 2

-- whole-block feed: length not a multiple of 16
abbrev pub not_whole_blocks : ℕ
not_whole_blocks = 3

-- associated data over max_ad bytes
abbrev pub ad_too_long : ℕ
ad_too_long = 4

-- plaintext over max_plaintext, or sealed part over max_sealed
abbrev pub text_too_long : ℕ
text_too_long = 5

-- sealed part under 16 bytes
abbrev pub sealed_too_short : ℕ
sealed_too_short = 6

-- output too small
abbrev pub no_room : ℕ
no_room = 7

-- tag differs
abbrev pub tag_differs : ℕ
tag_differs = 8

-- frame's first byte not 0x4B
abbrev pub not_a_frame : ℕ
not_a_frame = 9

-- unknown kind
abbrev pub unknown_kind : ℕ
unknown_kind = 10

-- length not allowed for the kind
abbrev pub length_for_kind : ℕ
length_for_kind = 11

-- frame cut short
abbrev pub cut_short : ℕ
cut_short = 12

-- position out of range
abbrev pub out_of_range : ℕ
out_of_range = 13

-- hash record claims more than 15 pending bytes, or has pending bytes where none may be, or unlike keys are joined
abbrev pub bad_record : ℕ
bad_record = 14

-- a program's log is over max_log bytes
abbrev pub log_too_long : ℕ
log_too_long = 15
