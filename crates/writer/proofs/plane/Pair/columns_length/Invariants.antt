-- `writer::plane::Pair::columns_length`: what is counted and what is left, from here, come to the whole.
use Prim.Native.Nat.{ℕ, ◌+◌, ◌-◌, ◌*◌, ◌≤◌}
use mathlib.Core.List.{List}
use Rattle.column_writer.proofs.CountLaws.{Counting}
use Rattle.writer.specs.Write.{columns_bytes}
use Rattle.writer.proofs.plane.Pair.columns_length.Given as goal

-- the loop's invariant
pub record Columns (old new : List ℕ) (row height at sum column : ℕ) : Type 0 where
  pub small : sum ≤ 3073 * column
  pub left : Counting (columns_bytes old new row height row at) sum (columns_bytes old new row height (row - column) (at + column))

abbrev pub invariant-loop-column : goal.invariant-loop-column
invariant-loop-column l = Columns l.self.old.now l.self.new.now l.self.row l.self.height l.at l.sum l.column
