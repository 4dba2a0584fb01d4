-- `column_writer::write_sames`: the Sames of the rows that are left, from here, come to the whole.
use Prim.Native.Nat.{◌-◌, ◌*◌}
use Rattle.laws.proofs.PutLaws.{Putting}
use Rattle.column_writer.specs.Column.{WrittenOp.same, cut, ops_bytes}
use Rattle.column_writer.proofs.write_sames.Given as goal

abbrev pub invariant-loop : goal.invariant-loop
invariant-loop l = Putting l.initial.out l.at (ops_bytes (cut (same l.rows l.value))) l.out l.place (ops_bytes (cut (same (l.rows - l.counter * 255) l.value)))
