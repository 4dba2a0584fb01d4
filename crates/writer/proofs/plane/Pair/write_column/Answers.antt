-- `writer::plane::Pair::write_column`: the columns are copied, and then written, which is not refused.
use Rattle.writer.proofs.ColumnLaws.{is_value, is_placed, is_put}
use Rattle.writer.proofs.plane.Pair.write_column.Goals as goal

pub unwrap-requires : goal.unwrap-requires
unwrap-requires c = is_value _ (is_placed _ _ _ _ _ _ _ c.copy_column.ensures c.copy_column-2.ensures c.requires.0.tall _ c.write.ensures c.requires.1)

pub returns : goal.returns
returns c = is_put _ _ _ _ _ _ _ c.copy_column.ensures c.copy_column-2.ensures c.requires.0.tall _ c.write.ensures c.requires.1 c.unwrap.ensures
