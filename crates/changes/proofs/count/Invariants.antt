-- `changes::count`: block by block, then the last byte.
use Prim.Native.Nat.{◌-◌, ◌<◌}
use lib.ListN.{length}
use Rattle.changes.specs.Count.{CountsBlock}
use Rattle.changes.proofs.count.Given as goal

abbrev pub invariant-loop-at : goal.invariant-loop-at
invariant-loop-at l = (l.at < length l.old) × CountsBlock l.old l.new 0 l.at l.runs l.changed

abbrev pub decreases-loop-at : goal.decreases-loop-at
decreases-loop-at l = length l.old - l.at
