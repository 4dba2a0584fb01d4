-- How much room a record needs at most (document 02, E8 and E6).
use Rattle.std.specs.Prelude.{ℕ, ◌+◌, ◌*◌}

-- the picture part, for a frame of n bytes: three bytes of frame number, five of place, three of the number of runs, 2n + 1 of runs
abbrev pub picture_room : ℕ → ℕ
picture_room n = 2 * n + 12

-- the map part: a run list over its 768 bytes, two bytes of the number of runs and 1,537 of runs
abbrev pub map_room : ℕ
map_room = 1_537 + 2

-- a record
abbrev pub record_room : ℕ → ℕ
record_room n = picture_room n + map_room
