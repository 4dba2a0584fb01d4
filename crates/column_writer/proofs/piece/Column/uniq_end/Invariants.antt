-- `column_writer::piece::Column::uniq_end`: the groups that were passed are fewer than four rows each, and lie in front of the stretch's rest.
use Prim.Native.Nat.{◌-◌}
use lib.ListN.{length}
use Rattle.column_writer.proofs.WalkLaws.{UniqPart}
use Rattle.column_writer.proofs.piece.Column.uniq_end.Given as goal

abbrev pub invariant-loop-i : goal.invariant-loop-i
invariant-loop-i l = UniqPart l.self.old.now l.self.new.now l.from l.i

abbrev pub decreases-loop-i : goal.decreases-loop-i
decreases-loop-i l = length l.self.new.now - l.i
