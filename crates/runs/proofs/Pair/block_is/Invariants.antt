-- `runs::Pair::block_is`: while the flag stands, the bytes passed so far are as they should be.
use mathlib.Core.Path.{◌≡◌}
use lib.Dec.{leb}
use lib.ListN.{drop}
use Rattle.runs.specs.Stretch.{stretch}
use Rattle.runs.proofs.Pair.block_is.Given as goal

abbrev pub invariant-loop-i : goal.invariant-loop-i
invariant-loop-i l = l.all ≡ leb l.i (stretch l.equal (drop l.at l.self.first.now) (drop l.at l.self.second.now))
