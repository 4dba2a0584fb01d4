-- `restore::differs`: the flag stands while the bytes passed so far differ.
use mathlib.Core.Path.{◌≡◌}
use lib.ListN.{take, drop}
use Rattle.runs.specs.Runs.{differ}
use Rattle.restore.proofs.differs.Given as goal

abbrev pub invariant-loop-i : goal.invariant-loop-i
invariant-loop-i l = l.all ≡ differ (take l.i (drop l.start l.bytes)) (drop l.to l.shown)
