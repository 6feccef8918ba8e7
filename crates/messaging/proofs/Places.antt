-- A frame's bytes and a message's values, computed on small examples: "Byte 0: 0x4B. Byte 1: kind. Bytes 2-3: little-endian length of the sealed
-- part. Bytes 4-15: nonce. Then the sealed part. Associated data is bytes 0-3." Assumes nothing.
use Prim.Native.Nat.{ℕ}
use mathlib.Core.Path.{◌≡◌, refl}
use mathlib.Core.List.{List, [], ◌∷◌, ◌++◌}
use lib.IntN.{pos, neg_ℤ}
use lib.ListN.{replicate}
use Rattle.octets.specs.Numbers.{number, bytes_of}
use Rattle.rfc8452.specs.Siv.{sealed, opened}
use Rattle.framing.specs.declared.position.Position.{Position}
use Rattle.framing.specs.Position.{position_of}
use Rattle.messaging.specs.Reading as message
use Rattle.messaging.specs.Parts.{header, ad_of, frame_of, ad_in, nonce_in, sealed_in, opened_in}
use Rattle.messaging.specs.Message.{content_answer, message_of, values_of}
use Rattle.messaging.specs.Read.{or_refused}

-- the first four bytes, the length's low byte first; 16 more than the text has
pub first_four : (header 2 0x1234 ≡ 0x4B ∷ 2 ∷ 0x34 ∷ 0x12 ∷ []) × (ad_of 1 (replicate 16 9) ≡ 0x4B ∷ 1 ∷ 32 ∷ 0 ∷ []) × (ad_of 2 (replicate 160 9) ≡ 0x4B ∷ 2 ∷ 176 ∷ 0 ∷ [])
    × (ad_of 3 [] ≡ 0x4B ∷ 3 ∷ 16 ∷ 0 ∷ [])
unfolding bytes_of
first_four = (refl, refl, refl, refl)

abbrev twelve : List ℕ
twelve = 101 ∷ 102 ∷ 103 ∷ 104 ∷ 105 ∷ 106 ∷ 107 ∷ 108 ∷ 109 ∷ 110 ∷ 111 ∷ 112 ∷ []

-- then the nonce, then what sealing makes under these four bytes as associated data
pub frame_layout : (key : List ℕ) → frame_of 2 key twelve (5 ∷ 6 ∷ []) ≡ 0x4B ∷ 2 ∷ 18 ∷ 0 ∷ (twelve ++ sealed key twelve (0x4B ∷ 2 ∷ 18 ∷ 0 ∷ []) (5 ∷ 6 ∷ []))
unfolding frame_of bytes_of
frame_layout key = refl

-- and taken apart: a check-in with one byte behind it
abbrev sixteen : List ℕ
sixteen = 201 ∷ 202 ∷ 203 ∷ 204 ∷ 205 ∷ 206 ∷ 207 ∷ 208 ∷ 209 ∷ 210 ∷ 211 ∷ 212 ∷ 213 ∷ 214 ∷ 215 ∷ 216 ∷ []

abbrev check_in : List ℕ
check_in = 0x4B ∷ 3 ∷ 16 ∷ 0 ∷ (twelve ++ (sixteen ++ (9 ∷ [])))

pub parts_of_it : (key : List ℕ) → (ad_in check_in ≡ 0x4B ∷ 3 ∷ 16 ∷ 0 ∷ []) × (nonce_in check_in ≡ twelve) × (sealed_in check_in ≡ sixteen) × (opened_in key check_in ≡ opened key twelve sixteen)
parts_of_it key = (refl, refl, refl, refl)

-- what a plaintext says, by its kind
abbrev place : List ℕ
place = 0x11 ∷ 0x22 ∷ 0x33 ∷ 0xF4 ∷ 0x55 ∷ 0x66 ∷ 0x77 ∷ 0x08 ∷ 0x99 ∷ 0xAA ∷ 0x0B ∷ 0x00 ∷ 0xDD ∷ 0xEE ∷ 0xFF ∷ 0x10 ∷ []

abbrev somewhere : Position
somewhere = record { lat = neg_ℤ (pos 197975535); lon = pos 142042709; alt = pos 764569; time = 285208285 }

pub messages : (message_of 1 place 48 ≡ message.Position somewhere 48) × (message_of 2 place 48 ≡ message.Text 16 48) × (message_of 3 [] 32 ≡ message.CheckIn 32)
unfolding position_of number
messages = (refl, refl, refl)

-- a position out of range is 13; the same bytes may stand in a text
pub contents : (content_answer 1 place ≡ 0) × (content_answer 1 (replicate 16 0x7F) ≡ 13) × (content_answer 2 (replicate 16 0x7F) ≡ 0) × (content_answer 3 [] ≡ 0)
unfolding position_of number
contents = (refl, refl, refl, refl)

pub message_or_number : (or_refused 0 (message.CheckIn 32) ≡ message.CheckIn 32) × (or_refused 8 (message.CheckIn 32) ≡ message.Refused 8)
message_or_number = (refl, refl)

-- the number and the values of each case, and zero where it has none
pub position_values : values_of (message.Position somewhere 48) ≡ record { answer = 0; kind = 1; lat = neg_ℤ (pos 197975535); lon = pos 142042709; alt = pos 764569; time = 285208285; len = 0; taken = 48 }
position_values = refl

pub text_values : values_of (message.Text 5 37) ≡ record { answer = 0; kind = 2; lat = pos 0; lon = pos 0; alt = pos 0; time = 0; len = 5; taken = 37 }
text_values = refl

pub check_in_values : values_of (message.CheckIn 32) ≡ record { answer = 0; kind = 3; lat = pos 0; lon = pos 0; alt = pos 0; time = 0; len = 0; taken = 32 }
check_in_values = refl

pub refused_values : values_of (message.Refused 12) ≡ record { answer = 12; kind = 0; lat = pos 0; lon = pos 0; alt = pos 0; time = 0; len = 0; taken = 0 }
refused_values = refl
