-- `writer::plane::copy_column`: after i turns the first i bytes are the column's.
use native.Mathlib.Omega.{arith}
use Rattle.writer.proofs.ColumnLaws.{column_more, copied_column}
use Rattle.writer.proofs.plane.copy_column.Goals as goal

pub loop-i-preserved : goal.loop-i-preserved
loop-i-preserved c = column_more _ _ _ c.loop-i.invariant c.loop-i-test.true (omega arith)

pub returns : goal.returns
returns c = copied_column _ _ _ c.loop-i.invariant c.loop-i-test.false c.loop-i.auto.i-end
