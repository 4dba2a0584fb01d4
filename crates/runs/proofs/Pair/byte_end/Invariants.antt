-- `runs::Pair::byte_end`: each turn is one more byte of the stretch.
use Rattle.runs.specs.Stretch.{Scanned}
use Rattle.runs.proofs.Pair.byte_end.Given as goal

abbrev pub invariant-loop-i : goal.invariant-loop-i
invariant-loop-i l = Scanned l.equal l.self.first.now l.self.second.now l.from l.i
