-- `step_on::step_on`: what lies ahead, and the step to it.
use borrow.Author.Rules.{rules}
use Rattle.step_on.proofs.StepLaws.{ahead_fits, on_refused, on_ended, on_built}
use Rattle.step_on.proofs.step_on.Goals as goal

pub commit-requires : goal.commit-requires
commit-requires c =
    ahead_fits c.args.file.now (record { a = c.args.a.now; b = c.args.b.now; map = c.args.map.now; state = c.args.state }) c.args.work.now (rw (c.in-Ok-Some.is, c.in-Ok-Some.field-0-is) at c.look_ahead.ensures) (search rules)

pub returns-in-Err : goal.returns-in-Err
returns-in-Err c =
    on_refused c.args.file.now (record { a = c.args.a.now; b = c.args.b.now; map = c.args.map.now; state = c.args.state }) c.args.work.now c.args.rec.now (rw c.in-Err.is at c.look_ahead.ensures)

pub returns-in-Ok-None : goal.returns-in-Ok-None
returns-in-Ok-None c =
    on_ended c.args.file.now (record { a = c.args.a.now; b = c.args.b.now; map = c.args.map.now; state = c.args.state }) c.args.work.now c.args.rec.now (rw (c.in-Ok-None.is, c.in-Ok-None.field-0-is) at c.look_ahead.ensures)

pub returns-in-Ok-Some : goal.returns-in-Ok-Some
returns-in-Ok-Some c =
    on_built c.args.file.now (record { a = c.args.a.now; b = c.args.b.now; map = c.args.map.now; state = c.args.state }) c.args.work.now c.args.rec.now (rw (c.in-Ok-Some.is, c.in-Ok-Some.field-0-is) at c.look_ahead.ensures)
    (rw c.part-anim.ensures at c.part-cmap.ensures) c.commit.ensures
