-- `step_back::put_back`: the tests of the lengths and the state, then the record.
use mathlib.Core.Path.{sym}
use Rattle.refusal.proofs.NumberLaws.{err_is}
use Rattle.state.specs.World.{World}
use Rattle.step_back.proofs.BackLaws.{back_refused, back_begins}
use Rattle.step_back.proofs.put_back.Goals.{Start}
use Rattle.step_back.proofs.put_back.Goals as goal

-- what is lent to the call
abbrev lent : Start → World
lent s = record { a = s.args.a.now; b = s.args.b.now; map = s.args.map.now; state = s.args.state }

pub returns-in_err-step_length : goal.returns-in_err-step_length
returns-in_err-step_length c =
    rw (err_is c.from_residual.result c.from_residual.ensures.1) (back_refused (lent (goal.at.returns-in_err-step_length c).Start) c.args.bytes.now (sym c.in_err-step_length.ensures))

pub returns : goal.returns
returns c = back_begins (lent (goal.at.returns c).Start) c.args.bytes.now (sym c.in_ok-step_length.ensures) c.restore_shown.ensures
