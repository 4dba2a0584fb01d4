-- `writer::plane::Pair::column_length`: the columns are copied, and then measured, which is not refused.
use native.Mathlib.Omega.{arith}
use mathlib.Core.Path.{◌∙◌}
use Rattle.writer.proofs.ColumnLaws.{whole, short, is_value, the_value}
use Rattle.writer.proofs.plane.Pair.column_length.Goals as goal

pub unwrap-requires : goal.unwrap-requires
unwrap-requires c = is_value _ (c.column_length.ensures ∙ whole _ _ _ _ _ _ _ c.copy_column.ensures c.copy_column-2.ensures c.requires.tall)

pub returns : goal.returns
returns c =
    let e = the_value (c.column_length.ensures ∙ whole _ _ _ _ _ _ _ c.copy_column.ensures c.copy_column-2.ensures c.requires.tall) c.unwrap.ensures in
    (e, omega (arith, e, short _ _ _ _ _ _ _ c.copy_column.ensures c.copy_column-2.ensures c.requires.tall))
