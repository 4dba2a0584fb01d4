-- `column_writer::piece::Column::measure`: what is counted and what is left, from here, come to the whole.
use Prim.Native.Nat.{◌-◌}
use lib.ListN.{length}
use Rattle.column_writer.proofs.FillLaws.{Measuring}
use Rattle.column_writer.proofs.piece.Column.measure.Given as goal

abbrev pub invariant-loop-row : goal.invariant-loop-row
invariant-loop-row l = Measuring l.self.old.now l.self.new.now l.row l.ops l.bytes

abbrev pub decreases-loop-row : goal.decreases-loop-row
decreases-loop-row l = length l.self.new.now - l.row
