-- `column_writer::write_ops`: the pieces are counted and written, and what is left, from here, comes to the whole.
use Rattle.column_writer.proofs.FillLaws.{Filling}
use lib.ListN.{length}
use Prim.Native.Nat.{◌-◌}
use Rattle.column_writer.proofs.write_ops.Given as goal

abbrev pub invariant-loop-row : goal.invariant-loop-row
invariant-loop-row l = Filling l.initial.room l.column.old.now l.column.new.now l.room l.ops l.place l.row

abbrev pub decreases-loop-row : goal.decreases-loop-row
decreases-loop-row l = length l.column.new.now - l.row
