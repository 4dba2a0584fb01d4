-- `delta::take_delta`: the planes so far and those that are left are all of them.
use Prim.Native.Nat.{◌-◌, ◌*◌}
use Rattle.delta.specs.Delta.{read_planes, read_picture}
use Rattle.delta.specs.Walk.{top, Walked}
use Rattle.delta.proofs.take_delta.Given as goal

abbrev pub invariant-loop-plane : goal.invariant-loop-plane
invariant-loop-plane l = Walked l.initial.frame l.shape l.d (read_picture l.shape l.d) top l.drawing (read_planes l.shape l.d (l.shape.planes - l.plane) l.plane) l.frame (32640 * l.plane) l.at
