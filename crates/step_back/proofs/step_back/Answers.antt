-- `step_back::step_back`: a record put back into the shown buffer and the map, and the state of the frame before.
use native.Mathlib.Omega.{arith}
use Rattle.state.specs.World.{World}
use Rattle.step_back.proofs.BackLaws.{back_frame, back_kept, back_taken}
use Rattle.step_back.proofs.step_back.Goals.{Start}
use Rattle.step_back.proofs.step_back.Goals as goal

-- what is lent to the call
abbrev lent : Start → World
lent s = record { a = s.args.a.now; b = s.args.b.now; map = s.args.map.now; state = s.args.state }

pub overflow_sub-state : goal.overflow_sub-state
overflow_sub-state c =
    omega (arith, back_frame (lent (goal.at.overflow_sub-state c).Start) c.args.bytes.now (rw c.in-Ok.is at c.put_back.ensures))

pub returns-in-Err : goal.returns-in-Err
returns-in-Err c =
    back_kept (lent (goal.at.returns-in-Err c).Start) c.args.bytes.now (rw c.in-Err.is at c.put_back.ensures)

pub returns-in-Ok : goal.returns-in-Ok
returns-in-Ok c =
    back_taken (lent (goal.at.returns-in-Ok c).Start) c.args.bytes.now (rw c.in-Ok.is at c.put_back.ensures) c.moved.ensures
