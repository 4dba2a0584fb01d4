-- `restore::take_runs`: each turn takes the next run of the definition's list.
use Prim.Native.Nat.{◌-◌}
use lib.ListN.{length, drop}
use Rattle.record.specs.RunList.{read_runs}
use Rattle.restore.proofs.TakeLaws.{Taking}
use Rattle.restore.proofs.take_runs.Given as goal

abbrev pub invariant-loop : goal.invariant-loop
invariant-loop l = Taking l.putting l.bytes l.initial.shown (read_runs l.count 0 (length l.initial.shown) (drop l.from l.bytes)) l.shown l.at l.place l.least (l.count - l.counter)
