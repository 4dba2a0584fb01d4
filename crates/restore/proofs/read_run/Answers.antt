-- `restore::read_run`: the two numbers and the tests, in the definition's order.
use native.Mathlib.Nat.{pos_of_ne-zero}
use Rattle.number.proofs.NumberLaws.{number_found, none_found}
use Rattle.restore.proofs.ReadLaws.{no_gap, short_gap, no_count, count_of_none, past_end, ends_early, run_found}
use native.Mathlib.Omega.{arith}
use Rattle.restore.proofs.read_run.Goals as goal

pub returns-in_err-gap : goal.returns-in_err-gap
returns-in_err-gap c = rw c.from_residual.ensures (no_gap c.args.bytes.now c.args.at _ _ (none_found c.in_err-gap.ensures))

pub returns-then-gap-least : goal.returns-then-gap-least
returns-then-gap-least c = short_gap _ _ _ _ (number_found c.in_ok-gap.ensures) (omega (arith, c.if-gap-least.true))

pub returns-in_err-count : goal.returns-in_err-count
returns-in_err-count c = rw c.from_residual-in_err-count.ensures (no_count _ _ _ _ (number_found c.in_ok-gap.ensures) (none_found c.in_err-count.ensures))

pub returns-then-count-eq0 : goal.returns-then-count-eq0
returns-then-count-eq0 c = count_of_none _ _ _ _ (number_found c.in_ok-gap.ensures) (number_found c.in_ok-count.ensures) c.if-count-eq0.true

pub overflow_add-gap : goal.overflow_add-gap
overflow_add-gap c = omega (arith, (number_found c.in_ok-gap.ensures).small, (number_found c.in_ok-count.ensures).small)

pub returns-then-room-gap : goal.returns-then-room-gap
returns-then-room-gap c = past_end _ _ _ _ (number_found c.in_ok-gap.ensures) (number_found c.in_ok-count.ensures) c.if-room-gap.true

pub returns-then-bytes-count : goal.returns-then-bytes-count
returns-then-bytes-count c = ends_early _ _ _ _ (number_found c.in_ok-gap.ensures) (number_found c.in_ok-count.ensures) c.if-bytes-count.true

pub returns : goal.returns
returns c =
    run_found _ _ _ _ (number_found c.in_ok-gap.ensures) (number_found c.in_ok-count.ensures) c.if-gap-least.false (pos_of_ne-zero c.if-count-eq0.false) c.if-room-gap.false c.if-bytes-count.false
