-- The room that a record needs: its picture part, its map part and the whole are no longer than `specs/Room` says.
use Prim.Native.Nat.{ℕ, ◌*◌, ◌≤◌}
use native.Mathlib.Omega.{arith}
use mathlib.Core.List.{List}
use mathlib.Core.Path.{◌≡◌}
use lib.ListN.{length}
use Rattle.number.proofs.NumberLaws.{write_most, write_few}
use Rattle.colours.specs.Colours.{MAP}
use Rattle.record.specs.Record.{picture_bytes, map_bytes, record_bytes}
use Rattle.record.specs.Room.{picture_room, map_room, record_room}
use Rattle.record.proofs.RecordLaws.{picture_length, record_length}
use Rattle.record.proofs.RoomLaws.{list_short}

pub picture_room_lem : (frame place : ℕ) (old new : List ℕ) → frame ≤ 1_000_000 → length old ≤ 8 * 1024 * 128 → length (picture_bytes frame place old new) ≤ picture_room (length old)
picture_room_lem frame place old new h l = omega (arith, picture_length frame place old new, write_few 2 frame (omega arith), write_most place, list_short 2 old new (omega arith))

pub map_room_lem : (old new : List ℕ) → length old ≡ MAP → length (map_bytes old new) ≤ map_room
unfolding map_bytes
map_room_lem old new h = omega (arith, list_short 1 old new (omega arith))

pub record_room_lem : (frame place : ℕ) (old new map map' : List ℕ) → frame ≤ 1_000_000 → length old ≤ 8 * 1024 * 128 → length map ≡ MAP
    → length (record_bytes frame place old new map map') ≤ record_room (length old)
record_room_lem frame place old new map map' h l m = omega (arith, record_length frame place old new map map', picture_room_lem frame place old new h l, map_room_lem map map' m)
