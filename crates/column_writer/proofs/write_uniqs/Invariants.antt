-- `column_writer::write_uniqs`: the Uniqs of the rows that are left, from here, come to the whole.
use mathlib.Core.Path.{◌≡◌}
use Rattle.std.specs.Slice.Iter.{chunks_rest, chunks_size}
use Rattle.laws.proofs.PutLaws.{Putting}
use Rattle.column_writer.specs.Column.{WrittenOp.uniq, cut, ops_bytes}
use Rattle.column_writer.proofs.write_uniqs.Given as goal

abbrev pub invariant-loop-part : goal.invariant-loop-part
invariant-loop-part l =
    (goal.iterator-loop-part).can_next l.part-iterator
    × (goal.iterator-loop-part).is_finite l.part-iterator
    × (chunks_size l.part-iterator ≡ 127)
    × Putting l.initial.out l.at (ops_bytes (cut (uniq l.rows))) l.out l.place (ops_bytes (cut (uniq (chunks_rest l.part-iterator))))
