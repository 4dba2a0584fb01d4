-- `column_writer::piece::Column::group_end`: the rows that were passed have one new value and lie in one stretch.
use Rattle.column_writer.specs.Piece.{GroupPart}
use Rattle.column_writer.proofs.piece.Column.group_end.Given as goal

abbrev pub invariant-loop-i : goal.invariant-loop-i
invariant-loop-i l = GroupPart l.self.old.now l.self.new.now l.from l.i
