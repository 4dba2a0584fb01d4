-- `record::put_map`: the run list of the part of the map that the CMAP replaces.
use Rattle.record.proofs.MapLaws.{part_counted, map_fits, map_put}
use Rattle.record.proofs.put_map.Goals as goal

pub put_list-requires : goal.put_list-requires
put_list-requires c =
    (part_counted c.requires.0 c.count-counts.ensures, map_fits c.requires.0 c.args.at c.requires.1)

pub returns : goal.returns
returns c =
    map_put c.requires.0 c.put_list.ensures.0 c.put_list.ensures.1
