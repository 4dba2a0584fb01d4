-- `body::unpack_row`: the bytes so far are those of the definition's turns, and they stand at the front of dst if they are drawn.
use Prim.Native.Nat.{◌-◌}
use mathlib.Core.Path.{◌≡◌}
use lib.ListN.{length}
use Rattle.body.proofs.WalkLaws.{Unpacking}
use Rattle.body.proofs.unpack_row.Given as goal

abbrev pub invariant-loop-filled : goal.invariant-loop-filled
invariant-loop-filled l = (length l.dst ≡ length l.initial.dst) × Unpacking l.s l.from l.drawing l.initial.dst l.dst l.at l.filled

abbrev pub decreases-loop-filled : goal.decreases-loop-filled
decreases-loop-filled l = length l.s - l.at
