-- `writer::plane::Pair::write_columns`: the columns that are left, from here, come to the whole.
use Rattle.laws.proofs.PutLaws.{putting_room, putting_more, putting_last}
use Rattle.writer.proofs.ColumnLaws.{plane_column}
use Rattle.writer.proofs.PlaneLaws.{plane_in, columns_parts, columns_none}
use Rattle.writer.proofs.plane.Pair.write_columns.Goals as goal

pub write_column-place-requires : goal.write_column-place-requires
write_column-place-requires c =
    (plane_column (plane_in c.args.at c.args.self.now.frames c.requires.0) _ c.loop-column-test.true, putting_room c.loop-column.invariant (columns_parts _ _ _ _ _ _ c.loop-column-test.true))

pub loop-column-preserved : goal.loop-column-preserved
loop-column-preserved c =
    putting_more c.loop-column.invariant (columns_parts _ _ _ _ _ _ c.loop-column-test.true) c.write_column-place.ensures

pub returns : goal.returns
returns c = putting_last c.loop-column.invariant (columns_none _ _ _ _ _ _ c.loop-column-test.false)
