-- `restore::take_runs`: each turn takes the next run of the definition's list.
use native.Mathlib.Omega.{arith}
use Prim.Native.Nat.{◌+◌, ◌-◌}
use mathlib.Core.Path.{◌≡◌}
use Rattle.restore.proofs.TakeLaws.{take_starts, take_ends, take_faulty, take_equal, take_more}
use Rattle.restore.proofs.take_runs.Goals as goal

pub loop-init : goal.loop-init
loop-init c =
    let all : c.args.count - 0 ≡ c.args.count = omega arith in
    rw all (take_starts _)

pub returns-in_err-run : goal.returns-in_err-run
returns-in_err-run c = rw c.from_residual.ensures (take_faulty c.loop.invariant (omega arith) c.in_err-run.ensures)

pub returns-then-not-take_run : goal.returns-then-not-take_run
returns-then-not-take_run c =
    take_equal c.loop.invariant (omega arith) c.in_ok-run.ensures c.take_run.ensures c.if-not-take_run.true

pub loop-preserved : goal.loop-preserved
loop-preserved c =
    let left : c.args.count - (c.loop.counter + 1) ≡ c.args.count - c.loop.counter - 1 = omega arith in
    rw left (take_more c.loop.invariant (omega arith) c.in_ok-run.ensures c.take_run.ensures c.if-not-take_run.false)

pub returns : goal.returns
returns c = take_ends c.loop.invariant (omega arith)
