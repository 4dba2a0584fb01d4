-- `body::check_rows`: a plain BODY is there if it is long enough; of a packed one, whether the rows that are left are there is whether all are.
use Prim.Native.Nat.{◌-◌}
use mathlib.Core.Path.{◌≡◌}
use Rattle.laws.specs.Result.{answer}
use Rattle.body.specs.Body.{rows_from}
use Rattle.body.proofs.check_rows.Given as goal

abbrev pub invariant-loop : goal.invariant-loop
invariant-loop l =
    (l.frame ≡ l.initial.frame) × (answer (rows_from l.s l.at l.row (l.count - l.counter) l.packed) ≡ answer (rows_from l.s 0 l.row l.count l.packed))
