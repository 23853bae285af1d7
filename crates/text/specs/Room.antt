-- What numbers leave of the room for a text.
use Rattle.std.specs.Prelude.{ℕ, ◌-◌, List, length, ℤ, Some, None, Option, nat_le, if◌then◌else◌}
use Rattle.std.specs.List.{flat_map}
use Rattle.dimacs.specs.Written.{spaced}

-- what `room` bytes leave after the numbers, if these have room
abbrev pub room_left : List ℤ → ℕ → Option ℕ
room_left zs room = if nat_le (length (flat_map spaced zs)) room then Some (room - length (flat_map spaced zs)) else None
