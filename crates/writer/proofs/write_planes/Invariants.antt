-- `writer::write_planes`: what is left to write, from a plane on, comes to the whole.
use Prim.Native.Nat.{◌-◌, ◌*◌}
use Rattle.writer.proofs.DeltaLaws.{Writing}
use Rattle.writer.proofs.write_planes.Given as goal

abbrev pub invariant-loop-plane : goal.invariant-loop-plane
invariant-loop-plane l = Writing l.initial.out l.pair.old.now l.pair.new.now l.pair.row l.pair.height l.pair.planes l.out (4 * l.plane) l.place l.at (l.pair.planes - l.plane)
