-- `delta::take_columns`: the columns so far and those that are left are all of them.
use Prim.Native.Nat.{◌+◌, ◌-◌, ◌*◌}
use Rattle.delta.specs.Column.{read_columns}
use Rattle.delta.specs.Walk.{Walked}
use Rattle.delta.proofs.take_columns.Given as goal

abbrev pub invariant-loop-i : goal.invariant-loop-i
invariant-loop-i l = Walked l.initial.frame l.shape l.d (read_columns l.shape l.d l.count l.base) l.initial.at l.drawing (read_columns l.shape l.d (l.count - l.i) (l.base + l.i * l.shape.item)) l.frame (255 * l.i) l.at
