-- `writer::plane::copy_column`: after i turns the first i bytes are the column's.
use Rattle.laws.specs.Store.{Copied}
use Rattle.writer.specs.Write.{column_at}
use Rattle.writer.proofs.plane.copy_column.Given as goal

abbrev pub invariant-loop-i : goal.invariant-loop-i
invariant-loop-i l = Copied l.initial.column (column_at l.frame l.row l.at l.height) l.i l.column
