-- What a turn of a reader of a log uses up. Assumes nothing.
use Rattle.std.specs.Prelude.{ℕ, ◌+◌, ◌-◌, ◌*◌}
use Rattle.framelog.specs.declared.place.Place.{Place}

-- a byte is first left, then held, then reported
abbrev pub budget : Place → ℕ
budget p = 2 * p.left + (p.to - p.from)
