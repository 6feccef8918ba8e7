-- Positions (document 01, "Frame"): four little-endian 32-bit fields and their ranges. Assumes nothing.
use Rattle.std.specs.Prelude.{ℕ, List, ◌++◌, Bool, ◌&&◌, ℤ, pos, neg_ℤ, take, drop}
use Rattle.std.specs.Int.Signed.{le_z}
use Rattle.octets.specs.Numbers.{number, bytes_of}
use Rattle.framing.specs.declared.position.Position.{Position}
use Rattle.framing.specs.Signed.{signed, bits_of}

-- the ranges, both ends included: latitude and longitude in 10^-7 degree, altitude in cm
abbrev pub lat_min : ℤ
lat_min = neg_ℤ (pos 900000000)

abbrev pub lat_max : ℤ
lat_max = pos 900000000

abbrev pub lon_min : ℤ
lon_min = neg_ℤ (pos 1800000000)

abbrev pub lon_max : ℤ
lon_max = pos 1800000000

abbrev pub alt_min : ℤ
alt_min = neg_ℤ (pos 50000)

abbrev pub alt_max : ℤ
alt_max = pos 1000000

abbrev pub within : ℤ → ℤ → ℤ → Bool
within least most z = le_z least z && le_z z most

-- every field within its range; time has none
abbrev pub in_range : Position → Bool
in_range p = within lat_min lat_max p.lat && (within lon_min lon_max p.lon && within alt_min alt_max p.alt)

-- the word in the four bytes from place i on
abbrev pub field_at : ℕ → List ℕ → ℕ
field_at i b = number (take 4 (drop i b))

-- the fields that sixteen bytes spell: latitude, longitude, altitude, time
unfoldable pub position_of : List ℕ → Position
position_of b = record { lat = signed (field_at 0 b); lon = signed (field_at 4 b); alt = signed (field_at 8 b); time = field_at 12 b }

-- the sixteen bytes that spell the fields
unfoldable pub position_bytes : Position → List ℕ
position_bytes p = bytes_of 4 (bits_of p.lat) ++ bytes_of 4 (bits_of p.lon) ++ bytes_of 4 (bits_of p.alt) ++ bytes_of 4 p.time
