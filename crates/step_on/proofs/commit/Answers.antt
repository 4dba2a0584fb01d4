-- `step_on::commit`: the record is written if it fits, and then the frame is in the hidden buffer and its colours in the map.
use native.Mathlib.Numerals.{add-one}
use mathlib.Core.Path.{◌∙◌}
use Rattle.step_on.proofs.StepLaws.{commit_unfit, commit_fit}
use Rattle.step_on.proofs.commit.Goals as goal

pub returns-in-Err : goal.returns-in-Err
returns-in-Err c =
    commit_unfit (record { a = c.args.a.now; b = c.args.b.now; map = c.args.map.now; state = c.args.state }) (record { picture = c.args.work.now; next = c.args.x.next; header = c.args.x.header; ops = c.args.x.ops; cmap = c.args.cmap.now }) c.args.rec.now c.requires.0 c.requires.1 c.requires.2
    (rw c.in-Err.is at c.commit_hidden.ensures)

pub returns-in-Ok : goal.returns-in-Ok
returns-in-Ok c =
    commit_fit (record { a = c.args.a.now; b = c.args.b.now; map = c.args.map.now; state = c.args.state }) (record { picture = c.args.work.now; next = c.args.x.next; header = c.args.x.header; ops = c.args.x.ops; cmap = c.args.cmap.now }) c.args.rec.now c.requires.0 c.requires.1 c.requires.2
    (rw c.in-Ok.is at c.commit_hidden.ensures) (c.moved.ensures ∙ rw (add-one _))
