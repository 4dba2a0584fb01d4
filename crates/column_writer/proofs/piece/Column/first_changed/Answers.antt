-- `column_writer::piece::Column::first_changed`: the runs from the start are those from here on, after the rows that were passed.
use Rattle.column_writer.proofs.WalkLaws.{passed_none, passed_more}
use Rattle.column_writer.proofs.piece.Column.first_changed.Goals as goal

pub loop-i-init : goal.loop-i-init
loop-i-init c = passed_none c.requires

pub loop-i-preserved : goal.loop-i-preserved
loop-i-preserved c = passed_more c.loop-i.invariant c.args.self.now.same c.loop-i-test.true c.if-self-i.false
