-- `record::put_record`: the picture part, then the map part.
use Prim.Native.Nat.{◌/◌}
use native.Mathlib.Omega.{arith}
use lib.Dec.{ltb}
use lib.ListN.{length}
use Rattle.colours.specs.Colours.{coloured}
use Rattle.record.proofs.RecordLaws.{record_length, record_put}
use Rattle.record.proofs.CommitLaws.{committed_all}
use Rattle.record.proofs.put_record.Goals as goal

pub put_picture-at-requires : goal.put_picture-at-requires
put_picture-at-requires c =
    (c.requires.0, omega (arith, c.requires.2, record_length c.args.frame c.args.place c.args.old.now c.args.new.now c.args.map.now (coloured c.args.map.now c.args.cmap.now)))

pub put_map-requires : goal.put_map-requires
put_map-requires c =
    (c.requires.1, omega (arith, c.requires.2, record_length c.args.frame c.args.place c.args.old.now c.args.new.now c.args.map.now (coloured c.args.map.now c.args.cmap.now), c.put_picture-at.ensures.0.place, c.put_picture-at.ensures.0.size))

pub returns : goal.returns
returns c = (
  record_put c.args.frame c.args.place c.args.old.now c.args.new.now _ _ c.put_picture-at.ensures.0 c.put_map.ensures.0,
  committed_all (ltb c.args.counts.changed (length c.args.old.now / 8)) c.args.old.now c.requires.0.one_length c.put_picture-at.ensures.1 c.replace.ensures,
  c.put_map.ensures.1,
)
