-- `record::put_list`: the number of runs, then the runs.
use native.Mathlib.Omega.{arith}
use Rattle.record.proofs.RecordLaws.{list_length, list_put}
use Rattle.record.proofs.put_list.Goals as goal

pub put_number-first-requires : goal.put_number-first-requires
put_number-first-requires c = omega (arith, list_length c.requires.0)

pub put_runs-requires : goal.put_runs-requires
put_runs-requires c =
    (c.requires.0.one_length, c.requires.0.short, omega (arith, list_length c.requires.0))

pub returns : goal.returns
returns c =
    (list_put c.requires.0 c.put_number-first.ensures c.put_runs.ensures.0, c.put_runs.ensures.1)
