-- `writer::lists_length`: what is counted and what is left, from here, come to the whole.
use Prim.Native.Nat.{ℕ, ◌+◌, ◌-◌, ◌*◌, ◌≤◌}
use mathlib.Core.List.{List}
use Rattle.column_writer.proofs.CountLaws.{Counting}
use Rattle.writer.specs.Write.{lists_bytes}
use Rattle.writer.proofs.PlaneLaws.{Walking}
use Rattle.writer.proofs.lists_length.Given as goal

-- the loop's invariant
pub record Lists (old new : List ℕ) (row height planes sum at left : ℕ) : Type 0 where
  pub walk : Walking row height planes at left
  pub small : sum + left * 393344 ≤ 3146752
  pub rest : Counting (lists_bytes old new row height planes 0) sum (lists_bytes old new row height left at)

abbrev pub invariant-loop : goal.invariant-loop
invariant-loop l = Lists l.pair.old.now l.pair.new.now l.pair.row l.pair.height l.pair.planes l.sum l.at (l.pair.planes - l.counter)
