-- `delta::column::take_ops`: the ops so far and those that are left are all of them.
use Prim.Native.Nat.{◌-◌}
use Rattle.delta.specs.Column.{read_ops}
use Rattle.delta.specs.Walk.{Walked}
use Rattle.delta.proofs.column.take_ops.Given as goal

abbrev pub invariant-loop : goal.invariant-loop
invariant-loop l = Walked l.initial.frame l.shape l.d (read_ops l.shape l.d l.base l.count) l.initial.at l.drawing (read_ops l.shape l.d l.base l.counter) l.frame (l.count - l.counter) l.at
