-- `restore::take_list`: the number of runs, then the runs.
use mathlib.Core.Path.{refl}
use Rattle.number.proofs.NumberLaws.{number_found, none_found}
use Rattle.restore.proofs.TakeLaws.{none_taken, list_faulty, list_found}
use Rattle.restore.proofs.take_list.Goals as goal

pub returns-in_err-runs : goal.returns-in_err-runs
returns-in_err-runs c =
    rw c.from_residual.ensures (none_taken (list_faulty c.args.bytes.now c.args.at _ (none_found c.in_err-runs.ensures)) (λ p. refl))

pub returns : goal.returns
returns c =
    rw (list_found _ (number_found c.in_ok-runs.ensures)) c.take_runs.ensures
