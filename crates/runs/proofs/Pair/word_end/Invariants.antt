-- `runs::Pair::word_end`: each turn is eight more bytes of the stretch.
use Prim.Native.Nat.{◌-◌}
use lib.ListN.{length}
use Rattle.runs.specs.Stretch.{Scanned}
use Rattle.runs.proofs.Pair.word_end.Given as goal

abbrev pub invariant-loop-i : goal.invariant-loop-i
invariant-loop-i l = Scanned l.equal l.self.first.now l.self.second.now l.from l.i

abbrev pub decreases-loop-i : goal.decreases-loop-i
decreases-loop-i l = length l.self.first.now - l.i
