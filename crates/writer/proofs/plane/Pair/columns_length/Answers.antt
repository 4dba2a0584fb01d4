-- `writer::plane::Pair::columns_length`: what is counted and what is left, from here, come to the whole.
use native.Mathlib.Omega.{arith}
use Prim.Native.Nat.{ℕ, ◌+◌, ◌*◌, ◌≤◌, ◌<◌}
use mathlib.Core.List.{List}
use mathlib.Core.Path.{◌≡◌}
use lib.ListN.{length}
use Rattle.column_writer.proofs.CountLaws.{counting_more, counting_last}
use Rattle.writer.specs.Write.{column_in, columns_bytes}
use Rattle.writer.proofs.PlaneLaws.{columns_parts, columns_none}
use Rattle.writer.proofs.plane.Pair.columns_length.Invariants.{Columns}
use Rattle.writer.proofs.plane.Pair.columns_length.Goals as goal

module _ {old new : List ℕ} {row height at sum column : ℕ} (w : Columns old new row height at sum column) where
  more : {n : ℕ} → column < row → (n ≡ length (column_in old new row height (at + column))) × (n ≤ 3073)
      → Columns old new row height at (sum + n) (column + 1)
  more h e = record { small = omega (arith, w.small, e.1); left = counting_more w.left (columns_parts old new row height at column h) e.0 }

  all : row ≤ column → column ≤ row → (sum ≡ length (columns_bytes old new row height row at)) × (sum ≤ 3073 * row)
  all h l = (counting_last w.left (columns_none old new row height at column h), omega (arith, w.small))

pub loop-column-preserved : goal.loop-column-preserved
loop-column-preserved c = more c.loop-column.invariant c.loop-column-test.true c.column_length-sum.ensures

pub returns : goal.returns
returns c = all c.loop-column.invariant c.loop-column-test.false c.loop-column.auto.column-end
