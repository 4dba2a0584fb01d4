-- Laws of the map part of a record. No new map is built: the runs of a map, and of the map with a CMAP laid over it, are those of the part
-- that the CMAP replaces.
use Prim.Native.Nat.{ℕ, ◌+◌, ◌≤◌}
use native.Mathlib.Omega.{arith}
use mathlib.Core.List.{List, ◌++◌}
use mathlib.Core.Path.{◌≡◌, sym, ap, ◌∙◌}
use lib.ListN.{length, take, drop, take-append-drop, length-take}
use lib.Seq.{take_all, length-take-le}
use Rattle.laws.specs.Store.{over}
use Rattle.laws.specs.Put.{Put}
use Rattle.laws.proofs.PutLaws.{put_as}
use Rattle.laws.proofs.StoreLaws.{over_front}
use Rattle.colours.specs.Colours.{MAP, coloured}
use Rattle.number.specs.Number.{write_number}
use Rattle.runs.specs.Runs.{runs_of}
use Rattle.runs.proofs.AppendLaws.{runs_common}
use Rattle.changes.specs.Count.{count}
use Rattle.changes.specs.declared.Counts.{Counts}
use Rattle.record.specs.RunList.{runs_bytes, list_bytes}
use Rattle.record.specs.Record.{map_bytes}
use Rattle.record.specs.Room.{map_room}
use Rattle.record.specs.Walk.{Counted, Laid}
use Rattle.record.proofs.RecordLaws.{counted, list_length}
use Rattle.record.proofs.RoomLaws.{list_short}

module _ {map cmap : List ℕ} (c : Laid map cmap) where
  -- the part that the CMAP replaces
  abbrev part : List ℕ
  part = take (length cmap) map

  pub part_long : length part ≡ length cmap
  part_long = length-take-le (length cmap) map c.fits

  coloured_is : coloured map cmap ≡ cmap ++ drop (length cmap) map
  unfolding over
  coloured_is = rw (take_all (length map) cmap c.fits)

  coloured_runs : runs_of map (coloured map cmap) ≡ runs_of part cmap
  coloured_runs =
      ap (λ (m : List ℕ). runs_of m (coloured map cmap)) (sym (take-append-drop (length cmap) map))
      ∙ rw coloured_is (runs_common part cmap (drop (length cmap) map) part_long)

  map_bytes_lem : map_bytes map (coloured map cmap) ≡ list_bytes (runs_of part cmap)
  unfolding map_bytes
  map_bytes_lem = ap list_bytes coloured_runs

  module _ {n : Counts} (e : n ≡ count part cmap) where
    pub part_counted : Counted part cmap n.runs
    part_counted = counted part cmap part_long (omega (arith, part_long, c.fits, c.long)) e

    pub map_measured : {k m : ℕ} → k ≡ length (write_number n.runs) → m ≡ length (runs_bytes (runs_of part cmap))
        → (k + m ≡ length (map_bytes map (coloured map cmap))) × (k + m ≤ map_room)
    map_measured p q =
        let l = list_length part_counted in
        (omega (arith, p, q, ap length map_bytes_lem, l), omega (arith, p, q, l, list_short 1 part cmap (omega (arith, part_long, c.fits, c.long)), part_long, c.fits, c.long))

  -- the map part fits where the run list of the part does, and is written with it
  pub map_fits : (at : ℕ) {room : ℕ} → at + length (map_bytes map (coloured map cmap)) ≤ room → at + length (list_bytes (runs_of part cmap)) ≤ room
  map_fits at h = rw map_bytes_lem at h

  pub map_put : {out out' y : List ℕ} {at r : ℕ} → Put out at (list_bytes (runs_of part cmap)) out' r → y ≡ cmap
      → Put out at (map_bytes map (coloured map cmap)) out' r × (y ++ drop (length cmap) map ≡ coloured map cmap)
  map_put p e = (put_as p map_bytes_lem, rw e (sym coloured_is))

-- the part of a CMAP that lies on the map makes of it what the whole CMAP does
module _ (map cmap : List ℕ) {laid : List ℕ} (l : length map ≡ MAP) (e : laid ≡ take MAP cmap) where
  pub laid_fits : Laid map laid
  laid_fits = record { long = l; fits = omega (arith, ap length e, length-take MAP cmap) }

  pub laid_over : coloured map laid ≡ coloured map cmap
  laid_over = ap (over map) (e ∙ ap (λ (n : ℕ). take n cmap) (sym l)) ∙ over_front map cmap
