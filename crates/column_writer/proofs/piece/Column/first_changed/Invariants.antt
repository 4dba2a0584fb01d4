-- `column_writer::piece::Column::first_changed`: the runs from the start are those from here on, after the rows that were passed.
use Rattle.column_writer.proofs.WalkLaws.{Passed}
use Rattle.column_writer.proofs.piece.Column.first_changed.Given as goal

abbrev pub invariant-loop-i : goal.invariant-loop-i
invariant-loop-i l = Passed l.self.old.now l.self.new.now l.from l.i
