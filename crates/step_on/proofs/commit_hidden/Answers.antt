-- `step_on::commit_hidden`: the hidden picture is recorded and replaced where it stands, and the map with it.
use native.Mathlib.Numerals.{add-one}
use mathlib.Core.Path.{sym, ◌∙◌}
use Rattle.step_on.proofs.StepLaws.{hidden_odd, hidden_even}
use Rattle.step_on.proofs.commit_hidden.Goals as goal

pub returns-then-shows_a : goal.returns-then-shows_a
returns-then-shows_a c =
    hidden_odd (record { a = c.args.a.now; b = c.args.b.now; map = c.args.map.now; state = c.args.state }) c.args.work.now c.args.cmap.now c.args.rec.now (add-one _) (sym c.shows_a.ensures ∙ c.if-shows_a.true) c.commit.ensures

pub returns : goal.returns
returns c =
    hidden_even (record { a = c.args.a.now; b = c.args.b.now; map = c.args.map.now; state = c.args.state }) c.args.work.now c.args.cmap.now c.args.rec.now (add-one _) (sym c.shows_a.ensures ∙ c.if-shows_a.false) c.commit-2.ensures
