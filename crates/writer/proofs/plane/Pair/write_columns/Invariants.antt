-- `writer::plane::Pair::write_columns`: the columns that are left, from here, come to the whole.
use Prim.Native.Nat.{◌+◌, ◌-◌}
use Rattle.laws.proofs.PutLaws.{Putting}
use Rattle.writer.specs.Write.{columns_bytes}
use Rattle.writer.proofs.plane.Pair.write_columns.Given as goal

abbrev pub invariant-loop-column : goal.invariant-loop-column
invariant-loop-column l = Putting l.initial.out l.from (columns_bytes l.self.old.now l.self.new.now l.self.row l.self.height l.self.row l.at) l.out l.place (columns_bytes l.self.old.now l.self.new.now l.self.row l.self.height (l.self.row - l.column) (l.at + l.column))
