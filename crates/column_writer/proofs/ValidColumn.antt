-- Every op that is written for a column has a count that can be written, and none has a count of 0 (document 02, E4).
use Prim.Native.Nat.{ℕ}
use mathlib.Core.List.{List}
use lib.ListN.{length}
use Rattle.laws.specs.Every.{Every}
use Rattle.runs.specs.Runs.{runs_of}
use Rattle.column_writer.specs.Column.{column_ops, Valid}
use Rattle.column_writer.proofs.BoundLaws.{valid_uniqs, valid_ops}
use Rattle.column_writer.proofs.ColumnLaws.{column_case}

pub valid_column : (old new : List ℕ) → Every Valid (column_ops old new)
valid_column old new = column_case (Every Valid) old new (valid_ops (runs_of new old)) (valid_uniqs (length new) new)
