-- `record::map_length`: the part of the map that the CMAP replaces is counted and measured against it.
use native.Mathlib.Omega.{arith}
use lib.ListN.{length, take}
use Rattle.record.specs.Walk.{Counted}
use Rattle.record.proofs.MapLaws.{part_counted, map_measured}
use Rattle.record.proofs.map_length.Goals.{After-count-counts}
use Rattle.record.proofs.map_length.Goals as goal

-- the part and the CMAP with the number of their runs
counts : (c : After-count-counts) → Counted (take (length c.args.cmap.now) c.args.map.now) c.args.cmap.now c.count-counts.result.runs
counts c = part_counted c.requires c.count-counts.ensures

pub overflow_cast-counts : goal.overflow_cast-counts
overflow_cast-counts c = omega (arith, (counts (goal.at.overflow_cast-counts c).After-count-counts).few, (counts (goal.at.overflow_cast-counts c).After-count-counts).short)

pub overflow_add-result : goal.overflow_add-result
overflow_add-result c = omega (arith, (map_measured c.requires c.count-counts.ensures c.written_length.ensures c.measure.ensures).1)

pub returns : goal.returns
returns c = map_measured c.requires c.count-counts.ensures c.written_length.ensures c.measure.ensures
