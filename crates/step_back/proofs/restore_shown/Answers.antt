-- `step_back::restore_shown`: the record is put back into the map and where the shown picture stands.
use mathlib.Core.Path.{sym, ◌∙◌}
use Rattle.state.specs.World.{World}
use Rattle.step_back.proofs.BackLaws.{shown_odd, shown_even}
use Rattle.step_back.proofs.restore_shown.Goals.{Start}
use Rattle.step_back.proofs.restore_shown.Goals as goal

-- what is lent to the call
abbrev lent : Start → World
lent s = record { a = s.args.a.now; b = s.args.b.now; map = s.args.map.now; state = s.args.state }

pub returns-then-shows_a : goal.returns-then-shows_a
returns-then-shows_a c =
    shown_odd (lent (goal.at.returns-then-shows_a c).Start) c.args.bytes.now (sym c.shows_a.ensures ∙ c.if-shows_a.true) c.restore.ensures

pub returns : goal.returns
returns c =
    shown_even (lent (goal.at.returns c).Start) c.args.bytes.now (sym c.shows_a.ensures ∙ c.if-shows_a.false) c.restore-2.ensures
